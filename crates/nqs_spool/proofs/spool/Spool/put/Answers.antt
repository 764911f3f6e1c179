use Rattle.std.proofs.Common.{refl, sym, ap, ◌∙◌, subst, length, arith}
use Rattle.nqs_outside.specs.History.{extended, StopsShort}
use Rattle.nqs_outside.proofs.Planned.{whole_is_prefix, short_is_prefix}
use Rattle.nqs_spool.specs.Puts.{written_through}
use Rattle.nqs_spool.specs.Extents.{extent_at, IsWith, extents_of}
use Rattle.nqs_spool.specs.Live as live
use Rattle.nqs_spool.specs.Spooled.{history_of}
use Rattle.nqs_spool.proofs.Writing.{held_idle, no_shorter, length_after, stored}
use Rattle.nqs_spool.proofs.Putting.{least, held, held_still, tells_more, tells_empty, found}
use Rattle.nqs_spool.proofs.spool.Spool.put.Goals as goal

-- refused, or no bytes

pub returns-then-bytes-gt-LONGEST-clause-least : goal.returns-then-bytes-gt-LONGEST-clause-least
returns-then-bytes-gt-LONGEST-clause-least g c = least c.args.self.now c.args.bytes.now

pub returns-then-bytes-gt-LONGEST-clause-kept : goal.returns-then-bytes-gt-LONGEST-clause-kept
returns-then-bytes-gt-LONGEST-clause-kept g c = λ told extents tells x script has holds. held_idle _ _ x script (tells.quiet told) refl holds

pub returns-then-is_empty-clause-least : goal.returns-then-is_empty-clause-least
returns-then-is_empty-clause-least g c = least c.args.self.now c.args.bytes.now

pub returns-then-is_empty-clause-kept : goal.returns-then-is_empty-clause-kept
returns-then-is_empty-clause-kept g c = λ told extents tells x script has holds. held_idle _ _ x script (tells.quiet told) refl holds

pub returns-then-is_empty-clause-tells : goal.returns-then-is_empty-clause-tells
returns-then-is_empty-clause-tells g c = tells_empty c.args.self.now

pub returns-in_err-room-clause-least : goal.returns-in_err-room-clause-least
returns-in_err-room-clause-least g c = least c.args.self.now c.args.bytes.now

pub returns-in_err-room-clause-kept : goal.returns-in_err-room-clause-kept
returns-in_err-room-clause-kept g c = λ told extents tells x script has holds. held_idle _ _ x script (tells.quiet told) refl holds

-- written

pub returns-in-Ok-clause-least : goal.returns-in-Ok-clause-least
returns-in-Ok-clause-least g c = least c.args.self.now c.args.bytes.now

pub returns-in-Err-clause-least : goal.returns-in-Err-clause-least
returns-in-Err-clause-least g c = least c.args.self.now c.args.bytes.now

pub invariant_of-self-in-Ok : goal.invariant_of-self-in-Ok
invariant_of-self-in-Ok g c = record {
  within = λ told.
      let h = history_of c.args.self.now in
      let f = found c.args.self.now c.take_room.new.self c.args.bytes.now c.least_place-place.result c.is_empty.result c.is_empty.ensures c.if-is_empty.false
      c.in_ok-room.ensures.same c.in_ok-room.ensures.end c.least_place-place.ensures.place c.least_place-place.ensures.within in
      omega (
        arith,
        c.insert.ensures.end,
        c.in_ok-room.ensures.end,
        c.args.self.now.within told,
        length_after h c.least_place-place.result c.args.bytes.now (f.within told) (g.D.Disk.history c.write_through.new.disk) (c.in-Ok.ensures.made told),
      );
}

pub invariant_of-self-in-Err : goal.invariant_of-self-in-Err
invariant_of-self-in-Err g c = record {
  within = λ told.
      let h = history_of c.args.self.now in
      let f = found c.args.self.now c.take_room.new.self c.args.bytes.now c.least_place-place.result c.is_empty.result c.is_empty.ensures c.if-is_empty.false
      c.in_ok-room.ensures.same c.in_ok-room.ensures.end c.least_place-place.ensures.place c.least_place-place.ensures.within in
      let broken = c.in-Err.ensures.broken told in
      omega (
        arith,
        c.in_ok-room.ensures.end,
        c.args.self.now.within told,
        no_shorter h c.least_place-place.result c.args.bytes.now (f.within told) (g.D.Disk.history c.write_through.new.disk) broken.0 broken.1
            (short_is_prefix _ _ broken.2),
      );
}

pub returns-in-Ok-clause-extent : goal.returns-in-Ok-clause-extent
returns-in-Ok-clause-extent g c =
    let f = found c.args.self.now c.take_room.new.self c.args.bytes.now c.least_place-place.result c.is_empty.result c.is_empty.ensures c.if-is_empty.false
    c.in_ok-room.ensures.same c.in_ok-room.ensures.end c.least_place-place.ensures.place c.least_place-place.ensures.within in
    ap (λ place. extent_at place (length c.args.bytes.now)) f.at

pub returns-in-Ok-clause-made : goal.returns-in-Ok-clause-made
returns-in-Ok-clause-made g c = λ told.
    let f = found c.args.self.now c.take_room.new.self c.args.bytes.now c.least_place-place.result c.is_empty.result c.is_empty.ensures c.if-is_empty.false
    c.in_ok-room.ensures.same c.in_ok-room.ensures.end c.least_place-place.ensures.place c.least_place-place.ensures.within in
    c.in-Ok.ensures.made told ∙ ap (extended (history_of c.args.self.now)) f.plan

pub returns-in-Ok-clause-exact : goal.returns-in-Ok-clause-exact
returns-in-Ok-clause-exact g c = λ told short free.
    let f = found c.args.self.now c.take_room.new.self c.args.bytes.now c.least_place-place.result c.is_empty.result c.is_empty.ensures c.if-is_empty.false
    c.in_ok-room.ensures.same c.in_ok-room.ensures.end c.least_place-place.ensures.place c.least_place-place.ensures.within in
    rw (sym f.plan) (c.in-Ok.ensures.exact told)

pub returns-in-Err-clause-exact : goal.returns-in-Err-clause-exact
returns-in-Err-clause-exact g c = λ told short free.
    let f = found c.args.self.now c.take_room.new.self c.args.bytes.now c.least_place-place.result c.is_empty.result c.is_empty.ensures c.if-is_empty.false
    c.in_ok-room.ensures.same c.in_ok-room.ensures.end c.least_place-place.ensures.place c.least_place-place.ensures.within in
    rw (sym f.plan) (c.in-Err.ensures.exact told)

pub returns-in-Err-clause-broken : goal.returns-in-Err-clause-broken
returns-in-Err-clause-broken g c = λ told fell.
    let f = found c.args.self.now c.take_room.new.self c.args.bytes.now c.least_place-place.result c.is_empty.result c.is_empty.ensures c.if-is_empty.false
    c.in_ok-room.ensures.same c.in_ok-room.ensures.end c.least_place-place.ensures.place c.least_place-place.ensures.within in
    let broken = c.in-Err.ensures.broken told in
    (broken.0, broken.1, subst (λ plan. StopsShort plan broken.0) f.plan broken.2)

pub returns-in-Ok-clause-kept : goal.returns-in-Ok-clause-kept
returns-in-Ok-clause-kept g c = λ told extents tells x script has holds.
    let f = found c.args.self.now c.take_room.new.self c.args.bytes.now c.least_place-place.result c.is_empty.result c.is_empty.ensures c.if-is_empty.false
    c.in_ok-room.ensures.same c.in_ok-room.ensures.end c.least_place-place.ensures.place c.least_place-place.ensures.within in
    held c.args.self.now c.args.bytes.now c.least_place-place.result f.at f.within extents tells told x script has holds
    (g.D.Disk.history c.write_through.new.disk) (written_through c.least_place-place.result c.args.bytes.now) (c.in-Ok.ensures.made told)
    (whole_is_prefix (written_through c.least_place-place.result c.args.bytes.now))

pub returns-in-Err-clause-kept : goal.returns-in-Err-clause-kept
returns-in-Err-clause-kept g c = λ told extents tells x script has holds.
    let f = found c.args.self.now c.take_room.new.self c.args.bytes.now c.least_place-place.result c.is_empty.result c.is_empty.ensures c.if-is_empty.false
    c.in_ok-room.ensures.same c.in_ok-room.ensures.end c.least_place-place.ensures.place c.least_place-place.ensures.within in
    let broken = c.in-Err.ensures.broken told in
    held c.args.self.now c.args.bytes.now c.least_place-place.result f.at f.within extents tells told x script has holds
    (g.D.Disk.history c.write_through.new.disk) broken.0 broken.1 (short_is_prefix _ _ broken.2)

pub returns-in-Ok-clause-tells : goal.returns-in-Ok-clause-tells
returns-in-Ok-clause-tells g c = λ extents more tells with_it.
    let f = found c.args.self.now c.take_room.new.self c.args.bytes.now c.least_place-place.result c.is_empty.result c.is_empty.ensures c.if-is_empty.false
    c.in_ok-room.ensures.same c.in_ok-room.ensures.end c.least_place-place.ensures.place c.least_place-place.ensures.within in
    let new = extent_at c.least_place-place.result (length c.args.bytes.now) in
    tells_more c.args.self.now c.args.bytes.now c.least_place-place.result f.at f.within extents tells _
    (subst (λ l. IsWith (extents_of l) new (live.kept c.insert.new.self)) c.in_ok-room.ensures.same c.insert.ensures.more) c.in-Ok.ensures.made more with_it

pub returns-in-Ok-clause-stored : goal.returns-in-Ok-clause-stored
returns-in-Ok-clause-stored g c = λ told.
    let h = history_of c.args.self.now in
    let f = found c.args.self.now c.take_room.new.self c.args.bytes.now c.least_place-place.result c.is_empty.result c.is_empty.ensures c.if-is_empty.false
    c.in_ok-room.ensures.same c.in_ok-room.ensures.end c.least_place-place.ensures.place c.least_place-place.ensures.within in
    stored h c.least_place-place.result c.args.bytes.now (f.within told) (g.D.Disk.history c.write_through.new.disk) (c.in-Ok.ensures.made told)

pub returns-in-Ok-clause-still : goal.returns-in-Ok-clause-still
returns-in-Ok-clause-still g c = λ told extents tells x script has holds.
    let f = found c.args.self.now c.take_room.new.self c.args.bytes.now c.least_place-place.result c.is_empty.result c.is_empty.ensures c.if-is_empty.false
    c.in_ok-room.ensures.same c.in_ok-room.ensures.end c.least_place-place.ensures.place c.least_place-place.ensures.within in
    held_still c.args.self.now c.args.bytes.now c.least_place-place.result f.at f.within extents tells told x script has holds
    (g.D.Disk.history c.write_through.new.disk) (written_through c.least_place-place.result c.args.bytes.now) (c.in-Ok.ensures.made told)
    (whole_is_prefix (written_through c.least_place-place.result c.args.bytes.now))

pub returns-in-Err-clause-still : goal.returns-in-Err-clause-still
returns-in-Err-clause-still g c = λ told extents tells x script has holds.
    let f = found c.args.self.now c.take_room.new.self c.args.bytes.now c.least_place-place.result c.is_empty.result c.is_empty.ensures c.if-is_empty.false
    c.in_ok-room.ensures.same c.in_ok-room.ensures.end c.least_place-place.ensures.place c.least_place-place.ensures.within in
    let broken = c.in-Err.ensures.broken told in
    held_still c.args.self.now c.args.bytes.now c.least_place-place.result f.at f.within extents tells told x script has holds
    (g.D.Disk.history c.write_through.new.disk) broken.0 broken.1 (short_is_prefix _ _ broken.2)
