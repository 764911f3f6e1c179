-- What calls leave of a node, one after the other, and what a call of the node leaves itself.
use Rattle.std.proofs.Common.{◌≡◌, ◌∙◌, ℕ, IsTrue, false, List, length, map, IsErrOf, Ok, Err, refl, ap, arith}
use Rattle.std.specs.Global.{Vec}
use Rattle.std.specs.declared.result.Result.{Result}
use Rattle.nqs_base.specs.Want.{want}
use Rattle.nqs_state.specs.State.{Plain}
use Rattle.nqs_types.specs.declared.event.Output.{Output}
use Rattle.nqs_types.specs.declared.world.Which.{Which}
use Rattle.nqs_outside.specs.declared.disk.Disk as disk
use Rattle.nqs_outside.proofs.Roses.{rose_since}
use Rattle.nqs_rules.specs.Stepped.{Stepped, shown}
use Rattle.nqs_store.specs.Sound.{IsSoundHost}
use Rattle.nqs_node.specs.Carried.{IsSpelled}
use Rattle.nqs_node.specs.Leaves as nodes
use Rattle.nqs_node.specs.Nodes.{active_of, bare, sized, content_of, history_of, is_stopped, Tells}
use Rattle.nqs_node.specs.Reading.{AreShort}
use Rattle.nqs_store.specs.declared.fault.StoreFault.{StoreFault}
use Rattle.nqs_store.specs.declared.fault.StoreFault.TheVariants as fault
use Rattle.nqs_node.specs.declared.node.Node.{Node}
use Rattle.nqs_base.proofs.Plain.{anyway}
pub use Rattle.nqs_node.proofs.Places.{no_error}
use Rattle.nqs_serve.specs.Leaves.{Cuts, Leaves, TakesStep}
use Rattle.nqs_serve.specs.Sends.{AreRight}
use Rattle.nqs_serve.specs.declared.cut.Cut.{Cut}
use Rattle.nqs_serve.specs.declared.cut.Cut.TheVariants as cut
use Rattle.nqs_serve.proofs.Sendable.{alike_right, alike_longer}

pub same_fault : {T E : Type 0} (d e : E) → IsErrOf {T = T} (Err d) e → d ≡ e
same_fault d e is = cc

-- nothing happened
pub none_left : {D T E : Type 0} {g : disk.Ghosts D} (node : Node D g) (failed : Which → E) (result : Result T E)
    → ((which : Which) → IsErrOf result (failed which) → ⊥)
    → IsSoundHost (content_of node) → is_stopped node ≡ false → Leaves node node failed result
none_left node failed result none sound running = record {
  sound = sound;
  site = refl;
  running = anyway result running;
  later = λ which. omega arith;
  broken = λ which is. absurd (none which is);
}

-- one call after another that went well
pub then_left : {D T U E : Type 0} {g : disk.Ghosts D} (a b c : Node D g) (failed : Which → E) (x : T) (result : Result U E) → Leaves a b failed (Ok x)
    → Leaves b c failed result → Leaves a c failed result
then_left a b c failed x result one two = record {
  sound = two.sound;
  site = two.site ∙ one.site;
  running = two.running;
  later = λ which. omega (arith, one.later which, two.later which);
  broken = λ which is. let broke = two.broken which is in (broke.0, rose_since _ _ _ (one.later which) broke.1);
}

-- it went well, and what is answered isn't that a call of a disk failed
pub left_as : {D T U E F : Type 0} {g : disk.Ghosts D} (a b : Node D g) (failed : Which → E) (lost : Which → F) (x : T) (result : Result U F)
    → ((which : Which) → IsErrOf result (lost which) → ⊥) → Leaves a b failed (Ok x) → Leaves a b lost result
left_as a b failed lost x result none left = record {
  sound = left.sound;
  site = left.site;
  running = anyway result left.running;
  later = left.later;
  broken = λ which is. absurd (none which is);
}

-- it failed, and the error that is answered is that of a disk only where this one is
pub left_by : {D T U E F : Type 0} {g : disk.Ghosts D} (a b : Node D g) (failed : Which → E) (e : E) (lost : Which → F) (k : F)
    → ((which : Which) → k ≡ lost which → e ≡ failed which)
    → Leaves {T = T} a b failed (Err e) → Leaves {T = U} a b lost (Err k)
left_by a b failed e lost k is_disk left = record {
  sound = left.sound;
  site = left.site;
  running = tt;
  later = left.later;
  broken = λ which is. left.broken which (ap Err (is_disk which (same_fault k (lost which) is)));
}

-- one call after another, of which both went well
pub both_left : {D T U V E : Type 0} {g : disk.Ghosts D} (a b c : Node D g) (failed : Which → E) (x : T) (y : U) (z : V) → Leaves a b failed (Ok x)
    → Leaves b c failed (Ok y) → Leaves a c failed (Ok z)
both_left a b c failed x y z one two = left_as a c failed failed y (Ok z) (λ which. no_error z (failed which)) (then_left a b c failed x (Ok y) one two)

pub cut_disk : (e : StoreFault) (k : Cut) (which : Which) → Cuts e k → k ≡ cut.Disk which → e ≡ fault.Disk which
cut_disk e (cut.Disk other) which cuts is = let same : other ≡ which = cc in cuts ∙ ap (λ (w : Which). fault.Disk w) same
cut_disk e (cut.Memory memory) which cuts is = cc

cut_memory : (e : StoreFault) (k : Cut) → Cuts e k → k ≡ cut.Memory want → e ≡ fault.Memory want
cut_memory e (cut.Disk which) cuts is = cc
cut_memory e (cut.Memory memory) cuts is = cc

-- what a call of the node leaves that went well, or that a fault cut off

module _ {D T : Type 0} {g : disk.Ghosts D} (old now : Node D g) where
  pub ok_left : (was says : Vec Output) (x : T) → nodes.Leaves old now was says (Ok x) → Leaves old now cut.Disk (Ok x)
  ok_left was says x left = record {
    sound = left.sound;
    site = left.site;
    running = left.stops.running;
    later = left.stops.later;
    broken = λ which is. absurd (no_error x (cut.Disk which) is);
  }

  pub cut_left : (was says : Vec Output) (e : StoreFault) (k : Cut) → Cuts e k → nodes.Leaves {T = T} old now was says (Err e)
      → Leaves {T = T} old now cut.Disk (Err k)
  cut_left was says e k cuts left = record {
    sound = left.sound;
    site = left.site;
    running = tt;
    later = left.stops.later;
    broken = λ which is. left.stops.broken which (ap Err (cut_disk e k which cuts (same_fault k (cut.Disk which) is)));
  }

  pub ok_taken : (was says : List Output) (step : Plain → Stepped (List ℕ)) (x : T) → AreRight 16 was → AreShort was
      → AreRight 16 (map shown (step (bare old)).outputs) → AreShort (map shown (step (sized old)).outputs)
      → (IsTrue g.tells → (s : Plain) → Tells old s → IsSpelled (active_of old) (history_of old) (history_of now) (step s).change)
      → nodes.TakesStep old now was says step (Ok x) → TakesStep old now was says step (Ok x)
  ok_taken was says step x was_right was_short right short spelled takes = record {
    right = alike_right 16 _ _ _ takes.alike was_right right;
    short = takes.short was_short short;
    told = λ s knows. let did = takes.carries s knows.1 in ((knows.0, did.told knows.0 s knows.1), did.outputs knows.0 s knows.1);
    memory = λ s knows is. absurd (no_error x (cut.Memory want) is);
    longer = alike_longer _ _ _ takes.alike;
    unsaid = tt;
    unmade = tt;
    active = λ s knows. (takes.carries s knows.1).active;
    moments = λ s knows. (takes.carries s knows.1).any_moment knows.0 s knows.1;
    whole = λ s knows. spelled knows.0 s knows.1;
    broken_off = λ s knows. tt;
    still = λ s knows is. absurd (no_error x (cut.Memory want) is);
  }

  pub cut_taken : (was says : Vec Output) (step : Plain → Stepped (List ℕ)) (e : StoreFault) (k : Cut) → Cuts e k
      → nodes.Leaves {T = T} old now was says (Err e)
      → nodes.TakesStep {T = T} old now was.items says.items step (Err e) → TakesStep {T = T} old now was.items says.items step (Err k)
  cut_taken was says step e k cuts left takes = record {
    right = tt;
    short = tt;
    told = λ s knows. tt;
    memory = λ s knows is. (knows.0, (left.memory knows.0 (ap Err (cut_memory e k cuts (same_fault k (cut.Memory want) is)))).tells s knows.1);
    longer = omega (arith, ap (λ (l : List Output). length l) left.unsaid);
    unsaid = left.unsaid;
    unmade = left.unmade;
    active = λ s knows. tt;
    moments = λ s knows. (takes.carries s knows.1).any_moment knows.0 s knows.1;
    whole = λ s knows. tt;
    broken_off = λ s knows. (takes.carries s knows.1).broken_off knows.0;
    still = λ s knows is which. (left.memory knows.0 (ap Err (cut_memory e k cuts (same_fault k (cut.Memory want) is)))).same which;
  }
