use Rattle.std.proofs.Common.{◌≡◌, suc, ◌+◌, ◌∷◌, ◌++◌, [], ◌∙◌, length, map, take, subst, sym, ap, arith}
use Rattle.std.proofs.Math.Seq.{map-set_same}
use Rattle.std.proofs.lemmas.List.{take_all}
use Rattle.nqs_rules.specs.Run.{states_of}
use Rattle.nqs_rules_table.specs.Standing.{StandForEach}
use Rattle.nqs_net.specs.Followed.{disks_in}
use Rattle.nqs_base.proofs.Plain.{anyway}
use Rattle.nqs_net.proofs.Following.{disks_back}
use Rattle.nqs_net.proofs.Showing.{at_place, as_many, stand_more, as_many_stand, few_hosts}
use Rattle.nqs_net.proofs.world.World.table.Goals as goal

pub loop-slot-preserved : goal.loop-slot-preserved
loop-slot-preserved c = record {
  disks = map-set_same disks_in c.loop-slot.slot-items c.loop-slot.slot-index c.read.new.slot c.slot-item.result c.read.ensures.disks
      ∙ c.loop-slot.invariant.disks;
  stands = λ tears hosts are.
      let i = c.loop-slot.slot-index in
      let now = c.loop-slot.invariant.stands tears hosts are in
      let place = at_place c.loop-slot.slot-items tears hosts i c.slot-item.result (omega (arith, c.loop-slot-test.true)) now.0 in
      let plains = map (λ h. h.state) hosts in
      let next : suc i ≡ i + 1 = omega arith in
      let more = subst (λ n. take n plains ≡ take i plains ++ place.host.state ∷ []) next place.more in
      let states = stand_more c.loop-slot.states.items (take i plains) c.in_ok-read.field-0 place.host.state now.1
      (c.in_ok-read.ensures.state place.host place.stands) in (
        place.put c.read.new.slot (c.read.ensures.same place.host place.stands),
        subst (λ found. StandForEach found (take (i + 1) plains)) (sym c.in_ok-push.ensures.items)
            (subst (λ ps. StandForEach (c.loop-slot.states.items ++ c.in_ok-read.field-0 ∷ []) ps) (sym more) states),
      );
}

pub read-requires : goal.read-requires
read-requires c =
    let (site, network, order, stands) = c.requires.sound in
    let tears = c.args.self.now.tears.items in
    let now = c.loop-slot.invariant.stands tears network.hosts stands.hosts in
    let place = at_place c.loop-slot.slot-items tears network.hosts c.loop-slot.slot-index c.slot-item.result (omega (arith, c.loop-slot-test.true)) now.0 in
    (place.host, place.stands)

pub table_of-requires : goal.table_of-requires
table_of-requires c =
    let (site, network, order, stands) = c.requires.sound in
    let tears = c.args.self.now.tears.items in
    let now = c.loop-slot.invariant.stands tears network.hosts stands.hosts in
    let all = take_all c.loop-slot.slot-index (states_of network) (omega (
      arith,
      as_many c.loop-slot.slot-items tears network.hosts now.0,
      c.loop-slot-test.false,
    )) in
    omega (
      arith,
      ap length c.deref.ensures.value,
      as_many_stand c.loop-slot.states.items
          (take c.loop-slot.slot-index (states_of network)) now.1,
      ap length all,
      few_hosts site network order,
    )

pub returns-clause-rows : goal.returns-clause-rows
returns-clause-rows c = λ network world.
    let tears = c.args.self.now.tears.items in
    let now = c.loop-slot.invariant.stands tears network.hosts world.hosts in
    let all = take_all c.loop-slot.slot-index (states_of network) (omega (
      arith,
      as_many c.loop-slot.slot-items tears network.hosts now.0,
      c.loop-slot-test.false,
    )) in
    c.table_of.ensures (states_of network) (subst (λ found. StandForEach found (states_of network)) (sym c.deref.ensures.value)
    (subst (λ ps. StandForEach c.loop-slot.states.items ps) all now.1))

pub returns-clause-disks : goal.returns-clause-disks
returns-clause-disks c = let slots = c.args.self.now.slots in anyway c.table_of.result
    (disks_back slots.items c.loop-slot.slot-items slots.len (omega (arith, slots.ok.0)) c.loop-slot.invariant.disks)
