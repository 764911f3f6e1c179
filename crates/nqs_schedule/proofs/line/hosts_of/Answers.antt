use Rattle.std.proofs.Common.{◌≡◌, ◌++◌, ◌∷◌, [], ℕ, List, ◌+◌, drop, sym, ap, ◌∙◌, rules}
use Rattle.nqs_words.specs.Values.{name_of}
use Rattle.nqs_schedule.specs.declared.words.LineWord.{LineWord}
use Rattle.nqs_schedule.specs.Says.{further_host, hosts_from, hosts_of}
use Rattle.nqs_schedule.proofs.Sites.{no_hosts, some_hosts, host_fails, host_more, hosts_bad, hosts_end}
use Rattle.nqs_schedule.proofs.line.hosts_of.Goals as goal

pub returns-in-Err : goal.returns-in-Err
returns-in-Err c = no_hosts c.args.words.now.words c.args.words.now.bad c.in-Err.cause (sym c.in-Err.ensures)

pub loop-i-init : goal.loop-i-init
loop-i-init c =
    let some = some_hosts c.args.words.now.words c.args.words.now.bad c.in_default.field-0 (sym c.text_there.ensures ∙ c.in_default.is) in
    let e = ap (λ (l : List LineWord). hosts_from c.new-site.result.items (drop 1 l) c.args.words.now.bad) c.as_slice-all.ensures in
    let none = ap (λ (s : List (List ℕ)). hosts_from s (drop 1 c.args.words.now.words) c.args.words.now.bad) c.new-site.ensures.items in
    record { so_far = e ∙ (none ∙ some) }

pub returns-in-Err-further_host : goal.returns-in-Err-further_host
returns-in-Err-further_host c =
    let same = ap (λ (s : List (List ℕ)). further_host s (name_of c.as_slice-in-loop-i.result.now)) c.as_slice.ensures.value
    ∙ ap (λ (t : List ℕ). further_host c.loop-i.site.items (name_of t))
    (c.as_slice-in-loop-i.ensures ∙ ap (λ (w : LineWord). w.text) (sym c.index-all-i.is)) in
    host_fails c.as_slice-all.result.now c.args.words.now.bad c.loop-i.site.items c.loop-i.i c.index-all-i.result
    (hosts_of c.args.words.now) c.in-Err-further_host.cause c.loop-i-test.true c.index-all-i.is c.loop-i.invariant.so_far
    (sym same ∙ sym c.in-Err-further_host.ensures)

pub loop-i-preserved : goal.loop-i-preserved
loop-i-preserved c =
    let same = ap (λ (s : List (List ℕ)). further_host s (name_of c.as_slice-in-loop-i.result.now)) c.as_slice.ensures.value
    ∙ ap (λ (t : List ℕ). further_host c.loop-i.site.items (name_of t))
    (c.as_slice-in-loop-i.ensures ∙ ap (λ (w : LineWord). w.text) (sym c.index-all-i.is)) in
    let more = host_more c.as_slice-all.result.now c.args.words.now.bad c.loop-i.site.items c.loop-i.i c.index-all-i.result
    (hosts_of c.args.words.now) c.in-Ok.name c.loop-i-test.true c.index-all-i.is c.loop-i.invariant.so_far
    (sym same ∙ sym c.in-Ok.ensures) in
    let pushed : c.push.new.self.items ≡ c.loop-i.site.items ++ c.in-Ok.name ∷ [] = search rules in
    record { so_far = ap (λ (s : List (List ℕ)). hosts_from s (drop (c.loop-i.i + 1) c.as_slice-all.result.now) c.args.words.now.bad) pushed ∙ more }

pub returns-then-words : goal.returns-then-words
returns-then-words c = hosts_bad c.as_slice-all.result.now c.args.words.now.bad c.loop-i.site.items c.loop-i.i
    (hosts_of c.args.words.now) c.loop-i-test.false c.loop-i.invariant.so_far c.if-words.true

pub returns : goal.returns
returns c = rw c.from_vec.ensures (hosts_end c.as_slice-all.result.now c.args.words.now.bad c.loop-i.site.items c.loop-i.i
    (hosts_of c.args.words.now) c.loop-i-test.false c.loop-i.invariant.so_far c.if-words.false)
