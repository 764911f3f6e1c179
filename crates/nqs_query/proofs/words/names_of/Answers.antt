use Rattle.std.proofs.Common.{◌≡◌, ◌++◌, ◌∷◌, [], sym, ap, ◌∙◌, rules}
use Rattle.nqs_words.specs.Values.{name_of}
use Rattle.nqs_query.proofs.Names.{names_bad, names_more, names_end}
use Rattle.nqs_query.proofs.words.names_of.Goals as goal

pub returns-in_default : goal.returns-in_default
returns-in_default c =
    names_bad c.args.words.now c.loop-i.names.items c.loop-i.i c.index-words-i.result c.loop-i-test.true c.index-words-i.is
    (ap name_of (sym c.as_slice.ensures) ∙ (sym c.name_of.ensures ∙ c.in_default.is)) c.loop-i.invariant.so_far

pub loop-i-preserved : goal.loop-i-preserved
loop-i-preserved c =
    let more = names_more c.args.words.now c.loop-i.names.items c.loop-i.i c.index-words-i.result c.in-Some.name c.loop-i-test.true c.index-words-i.is
    (ap name_of (sym c.as_slice.ensures) ∙ sym c.in-Some.ensures) c.loop-i.invariant.so_far in
    let pushed : c.push.new.self.items ≡ c.loop-i.names.items ++ c.in-Some.name ∷ [] = search rules in
    record { so_far = rw pushed more }

pub returns : goal.returns
returns c = names_end c.args.words.now c.loop-i.names.items c.loop-i.i c.loop-i-test.false c.loop-i.invariant.so_far
