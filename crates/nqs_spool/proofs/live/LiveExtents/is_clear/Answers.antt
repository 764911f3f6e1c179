use Rattle.std.proofs.Common.{◌≡◌, ◌+◌, sym, ap, ◌∙◌, subst, arith}
use Rattle.std.proofs.lemmas.Bool.{both_ways}
use Rattle.nqs_spool.specs.Slots.{is_free}
use Rattle.nqs_spool.specs.Live.{slots, end_of}
use Rattle.nqs_spool.proofs.Kept.{free_clear, clear_free}
use Rattle.nqs_spool.proofs.live.LiveExtents.is_clear.Goals as goal

pub returns-clause-clear : goal.returns-clause-clear
returns-clause-clear c = λ free.
    let x = c.args.extent.now in
    let past : x.place + c.from.result ≡ x.place + x.length = ap (λ n. x.place + n) c.from.ensures in
    let is = subst (λ n. c.is_free.result ≡ is_free x.place n (end_of c.args.self.now) n (slots c.args.self.now)) past c.is_free.ensures in
    free_clear x.place x.length (x.place + x.length) 0 (end_of c.args.self.now) (slots c.args.self.now) c.args.self.now.row
    (omega (arith, c.if-past-extent.false, c.from.ensures)) (sym is ∙ free)

pub returns-clause-meets : goal.returns-clause-meets
returns-clause-meets c = λ taken clear.
    let x = c.args.extent.now in
    let past : x.place + c.from.result ≡ x.place + x.length = ap (λ n. x.place + n) c.from.ensures in
    let is = subst (λ n. c.is_free.result ≡ is_free x.place n (end_of c.args.self.now) n (slots c.args.self.now)) past c.is_free.ensures in
    both_ways c.is_free.result taken (is ∙ clear_free x.place x.length 0 (end_of c.args.self.now) (slots c.args.self.now) c.args.self.now.row (omega arith)
    (omega (arith, c.if-past-extent.false, c.from.ensures)) clear)
