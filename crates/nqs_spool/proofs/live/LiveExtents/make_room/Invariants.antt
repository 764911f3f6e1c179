use Rattle.std.proofs.Common.{◌≡◌, ◌≤◌, ◌-◌}
use Rattle.nqs_spool.specs.Live.{slots, end_of, room_of}
use Rattle.nqs_spool.proofs.live.LiveExtents.make_room.Given as goal

abbrev pub invariant-rooms : goal.invariant-rooms
invariant-rooms l = (slots l.self ≡ slots l.initial.self) × (end_of l.self ≡ end_of l.initial.self) × (room_of l.initial.self ≤ room_of l.self)

abbrev pub decreases-rooms : goal.decreases-rooms
decreases-rooms l = l.count - room_of l.self
