use Rattle.std.proofs.Common.{◌∙◌, inr, refl, sym, subst, drop}
use Rattle.std.proofs.lemmas.List.{take_rest}
use Rattle.nqs_journal.specs.Either.{IsNoSnapshot}
use Rattle.nqs_journal.proofs.Fronts.{front_stands, front_taken, front_within, is_none, is_snapshot, header_taken, header_within}
use Rattle.nqs_journal.proofs.front.read_front.Goals as goal

pub returns-then-not-begins_with_snapshot-clause-is : goal.returns-then-not-begins_with_snapshot-clause-is
returns-then-not-begins_with_snapshot-clause-is c = is_none _ (sym c.begins_with_snapshot.ensures
    ∙ c.if-not-begins_with_snapshot.true) c.in_ok-form.ensures.known

pub returns-then-not-begins_with_snapshot-clause-stands : goal.returns-then-not-begins_with_snapshot-clause-stands
returns-then-not-begins_with_snapshot-clause-stands c = header_taken _ _ c.in_ok-form.ensures.stands
    (sym c.begins_with_snapshot.ensures ∙ c.if-not-begins_with_snapshot.true)

pub returns-then-not-begins_with_snapshot-clause-within : goal.returns-then-not-begins_with_snapshot-clause-within
returns-then-not-begins_with_snapshot-clause-within c = header_within _ _ c.in_ok-form.ensures.stands

pub returns-in_default-clause-fault : goal.returns-in_default-clause-fault
returns-in_default-clause-fault c = inr (record {
  is_place = refl;
  form = c.in_ok-form.form;
  among = sym c.begins_with_snapshot.ensures ∙ c.if-not-begins_with_snapshot.false;
  rest = drop 16 c.args.bytes.now;
  text = c.in_ok-form.ensures.stands;
  bad = subst IsNoSnapshot (take_rest c.args.bytes.now 16) c.in_default.ensures.none;
})

pub returns-clause-is : goal.returns-clause-is
returns-clause-is c = is_snapshot _ _ (sym c.begins_with_snapshot.ensures ∙ c.if-not-begins_with_snapshot.false) c.in-Some.ensures.small

pub returns-clause-stands : goal.returns-clause-stands
returns-clause-stands c =
    let behind = c.in-Some.ensures.some in
    let form = c.in_ok-form.form in
    let has = sym c.begins_with_snapshot.ensures ∙ c.if-not-begins_with_snapshot.false in
    front_taken form _ _ behind.0 has
    (front_stands form _ _ behind.0 has c.in_ok-form.ensures.stands (sym (take_rest c.args.bytes.now 16) ∙ behind.1))

pub returns-clause-within : goal.returns-clause-within
returns-clause-within c =
    let behind = c.in-Some.ensures.some in
    let form = c.in_ok-form.form in
    let has = sym c.begins_with_snapshot.ensures ∙ c.if-not-begins_with_snapshot.false in
    front_within form _ _ behind.0 has
    (front_stands form _ _ behind.0 has c.in_ok-form.ensures.stands (sym (take_rest c.args.bytes.now 16) ∙ behind.1))
