use Rattle.std.proofs.Common.{rules, ◌∙◌, length, map, sym, ap, subst, arith}
use Rattle.nqs_records.specs.Changes.{MayStand, spelling}
use Rattle.nqs_records.specs.Kinds.{record_of}
use Rattle.nqs_records.specs.Extents.{with_extents}
use Rattle.nqs_rules.specs.Stepped.{stored_parts}
use Rattle.nqs_store.proofs.Lengths.{same_length}
use Rattle.nqs_store.proofs.Filled.{with_back, stands_kept, puts_short}
use Rattle.nqs_store.specs.Putting.{ArePut}
use Rattle.std.specs.List.{AllByRecursion}
use Rattle.std.proofs.lemmas.List.{take_at}
use Rattle.std.proofs.Common.{drop}
use Rattle.nqs_records.specs.Values.{IsScript}
use Rattle.nqs_store.specs.Puts.{length_of}
use Rattle.nqs_store.proofs.put.put_bytes.Goals as goal

pub put_all-requires : goal.put_all-requires
put_all-requires g c = record {
  room = c.requires.prepared.room;
  list = omega (arith, ap length c.requires.prepared.none, c.requires.prepared.list);
  short = puts_short c.args.change.now c.args.puts.now c.requires.as_many c.requires.short;
}

pub put_extents-requires : goal.put_extents-requires
put_extents-requires g c =
    ap length (c.deref_mut.ensures.value ∙ c.requires.prepared.text) ∙ sym (same_length c.args.change.now c.deref.result.now)
    ∙ ap (λ x. length (spelling x)) (sym c.set_extents.ensures)

pub returns : goal.returns
returns g c =
    let old = c.args.change.now in
    let xs = c.put_all.new.extents.items in
    let put = subst (λ l. ArePut c.args.puts.now c.args.spool.now c.put_all.new.spool l xs) c.requires.prepared.none c.in_ok-put_all.ensures.done in
    let set = c.set_extents.ensures ∙ ap (with_extents old) c.deref.ensures.value in
    let was = c.deref_mut.ensures.value ∙ c.requires.prepared.text ∙ ap spelling (sym (ap (λ ch. with_extents ch (stored_parts old)) set ∙ with_back old xs)) in
    let is = c.put_extents.ensures (stored_parts old) was in
    let size = ap length is ∙ ap (λ ch. length (spelling ch)) set ∙ same_length old xs ∙ ap length (sym c.requires.prepared.text)
    ∙ ap length (sym c.deref_mut.ensures.value) ∙ c.deref_mut.ensures.len in
    let stands = subst MayStand (sym set) (stands_kept old xs c.args.puts.now c.requires.may_stand
    (subst (AllByRecursion IsScript) (sym put.is) put.small) (ap (map length_of) put.is ∙ put.lengths) c.requires.short) in
    let whole = take_at c.put_extents.new.text (drop (length c.put_extents.new.text) c.args.text.now.items) c.args.text.now.len size in
    record {
      puts = search rules;
      unchanged = tt;
      size = search rules;
      done = record {
        extents = xs;
        are_put = put;
        change = set;
        stands = stands;
        read = ap record_of (sym c.deref-2.ensures.value) ∙ c.read_back.ensures stands (c.deref-2.ensures.value ∙ whole ∙ is);
        spelled = whole ∙ is;
      };
    }
