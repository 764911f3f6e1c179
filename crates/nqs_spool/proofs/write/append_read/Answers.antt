use Rattle.std.proofs.Common.{◌≡◌, ◌+◌, ◌-◌, ◌++◌, ℕ, List, length, take, drop, ap, ◌∙◌, arith, length-drop, vec_len}
use Rattle.std.proofs.lemmas.List.{length-take}
use Rattle.nqs_outside.specs.History.{content}
use Rattle.nqs_spool.proofs.Reading.{read_behind, filled_front, filled_length}
use Rattle.nqs_spool.proofs.write.append_read.Goals as goal

pub returns-in-Ok-clause-bytes : goal.returns-in-Ok-clause-bytes
returns-in-Ok-clause-bytes g c = λ told.
    let bytes = content (g.D.Disk.history c.args.disk.now) in
    let out = c.args.out.now in
    let start = c.len-start.result in
    let all = c.deref_mut.result.now in
    let at : start ≡ length out.items = omega (arith, c.len-start.ensures, out.ok) in
    let more = start + c.args.count - vec_len out in
    let filled = c.deref_mut.ensures.value ∙ c.in_ok-resize.ensures.items in
    let front = filled_front out.items all start c.args.count more 0 at filled in
    let size = filled_length out.items all start c.args.count more 0 at (omega (arith, c.len-start.ensures)) filled in
    let part = length-take (length all - start) (drop start all) in
    let tail = length-drop start all in
    rw (c.truncate.ensures.items, c.in-Ok.ensures.bytes told) (
    read_behind all _ _ _ bytes start c.resize.new.self.len c.args.place c.args.count c.in-Ok.read
    (omega (arith, size)) (omega (arith, c.in-Ok.ensures.within, part, tail, size, c.in_ok-resize.ensures.len))
    (omega (arith, c.in-Ok.ensures.count told, part, tail, size))
    ∙ ap (λ (l : List ℕ). l ++ take c.args.count (drop c.args.place bytes)) front)
