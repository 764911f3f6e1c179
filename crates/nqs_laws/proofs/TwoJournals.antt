-- A root names one of two journals, whatever stands in it.
use Rattle.std.proofs.Common.{◌≡◌, ◌⊎◌, inl, inr, ℕ, ◌%◌, ◌==◌, Bool, true, false, not, List, [], ◌∷◌, refl}
use Rattle.std.specs.Prelude.{MatchBool, if◌then◌else◌}
use Rattle.nqs_base.specs.declared.tear.Tear.{Tear}
use Rattle.nqs_base.specs.declared.tear.Tear.TheVariants.{Old, New, Mixed}
use Rattle.nqs_rules.specs.Journals.{is_second, journal_on, byte_of, active, resting, turned, torn_root, torn_byte, names_same, behind_byte}

pub same_names : (a b : List ℕ) → MatchBool (names_same a b) (active b ≡ active a) (active b ≡ resting a)
same_names a b = by (is_second a) (is_second b)
  where
    by : (x y : Bool) → MatchBool (if x then y else not y) (journal_on y ≡ journal_on x) (journal_on y ≡ journal_on (not x))
    by true true = refl
    by true false = refl
    by false true = refl
    by false false = refl

pub turned_active : (root : List ℕ) → active (turned root) ≡ resting root
turned_active root = by (is_second root)
  where
    by : (x : Bool) → journal_on (byte_of (not x) % 2 == 1) ≡ journal_on (not x)
    by true = refl
    by false = refl

pub turned_resting : (root : List ℕ) → resting (turned root) ≡ active root
turned_resting root = by (is_second root)
  where
    by : (x : Bool) → journal_on (not (byte_of (not x) % 2 == 1)) ≡ journal_on x
    by true = refl
    by false = refl

pub turned_bytes : (root : List ℕ) → behind_byte (turned root) ≡ behind_byte root
turned_bytes root = refl

pub torn_either : (tear : Tear) (root : List ℕ) → (active (torn_root tear root) ≡ active root) ⊎ (active (torn_root tear root) ≡ active (turned root))
torn_either tear root = by (is_second (torn_root tear root)) (is_second root)
  where
    by : (x y : Bool) → (journal_on x ≡ journal_on y) ⊎ (journal_on x ≡ journal_on (byte_of (not y) % 2 == 1))
    by true true = inl refl
    by true false = inr refl
    by false true = inr refl
    by false false = inl refl

pub torn_bytes : (tear : Tear) (root : List ℕ) → behind_byte (torn_root tear root) ≡ behind_byte root
torn_bytes Old root = refl
torn_bytes New root = refl
torn_bytes (Mixed n) (byte ∷ bytes) = refl
torn_bytes (Mixed n) [] = by (n % 2 == 1)
  where
    by : (b : Bool) → behind_byte (if b then torn_byte (n % 4) 0 1 ∷ [] else []) ≡ []
    by true = refl
    by false = refl
