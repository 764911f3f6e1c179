-- What is sent carries no more than was read for it, so that it is short where as many zeros are.
use Rattle.std.proofs.Common.{◌≡◌, ℕ, zero, suc, ◌≤◌, true, List, [], ◌∷◌, ◌++◌, length, refl, ap, sym, subst, ◌∙◌, arith}
use Rattle.std.specs.List.{list_all}
use Rattle.std.proofs.lemmas.Bool.{and_parts, and_from, leb-true, le-leb}
use Rattle.std.proofs.lemmas.List.{length-replicate}
use Rattle.std.proofs.lemmas.List.Folds.{list_all-append}
use Rattle.nqs_base.specs.declared.extent.Extent.{Extent}
use Rattle.nqs_types.specs.Scripts.{longest_script}
use Rattle.nqs_types.specs.declared.event.Output.{Output}
use Rattle.nqs_types.specs.declared.event.Output.TheVariants.{Send, Launch, Print, File}
use Rattle.nqs_types.specs.declared.event.PlanRead.{PlanRead}
use Rattle.nqs_types.specs.declared.message.Body.{Body}
use Rattle.nqs_types.specs.declared.message.Body.TheVariants.{Offer, Ready, Stage}
use Rattle.nqs_rules.specs.Edits.{change_at}
use Rattle.nqs_rules.specs.Sane.{is_short_script, is_short_file}
use Rattle.nqs_rules.specs.Stepped.{sent_with, with_bytes}
use Rattle.nqs_node.specs.Reading.{read_into, zeros, carries_short, sends_short, AreShort}

-- an output with fewer bytes

file_less : (a b : List ℕ) → length b ≤ length a → is_short_file a ≡ true → is_short_file b ≡ true
file_less a b fewer short = le-leb (length b) 32768 (let few = leb-true (length a) 32768 short in omega (arith, few, fewer))

script_less : (a b : List ℕ) → length b ≤ length a → is_short_script a ≡ true → is_short_script b ≡ true
script_less a b fewer short = le-leb (length b) longest_script (let few = leb-true (length a) longest_script short in omega (arith, few, fewer))

carries_less : (a b : List ℕ) → length b ≤ length a → (m : Body) → carries_short (sent_with a m) ≡ true → carries_short (sent_with b m) ≡ true
carries_less a b fewer (Offer number low queue c script) short = script_less a b fewer short
carries_less a b fewer (Stage number path out) short = file_less a b fewer short
carries_less a b fewer (Ready number) short = short
carries_less a b fewer m short = short

sends_less : (a b : List ℕ) → length b ≤ length a → (o : Output) → sends_short (with_bytes a o) ≡ true → sends_short (with_bytes b o) ≡ true
sends_less a b fewer (Send m) short = carries_less a b fewer m.body short
sends_less a b fewer (Launch order script) short = refl
sends_less a b fewer (Print device order script) short = refl
sends_less a b fewer (File file path out) short = refl
sends_less a b fewer o short = short

-- the bytes that come last are those of an output

twice_sent : (a b : List ℕ) (m : Body) → sent_with b (sent_with a m) ≡ sent_with b m
twice_sent a b (Offer number low queue c script) = refl
twice_sent a b (Stage number path out) = refl
twice_sent a b (Ready number) = refl
twice_sent a b m = refl

twice : (a b : List ℕ) (o : Output) → with_bytes b (with_bytes a o) ≡ with_bytes b o
twice a b (Send m) = ap (λ k. Send (record { from = m.from; to = m.to; body = k })) (twice_sent a b m.body)
twice a b (Launch order script) = refl
twice a b (Print device order script) = refl
twice a b (File file path out) = refl
twice a b o = refl

-- an output is short where another is, and stays so with whatever bytes
record Lessens (x y : Output) : Type 0 where
  pub now : sends_short x ≡ true → sends_short y ≡ true
  pub filled : (bytes : List ℕ) → sends_short (with_bytes bytes x) ≡ true → sends_short (with_bytes bytes y) ≡ true

lessens_same : (x : Output) → Lessens x x
lessens_same x = record { now = λ short. short; filled = λ bytes short. short }

-- with other bytes as well
lessens_filled : (a : List ℕ) (x y : Output) → Lessens x y → Lessens (with_bytes a x) (with_bytes a y)
lessens_filled a x y less = record {
  now = less.filled a;
  filled = λ bytes short. ap sends_short (twice a bytes y) ∙ less.filled bytes (sym (ap sends_short (twice a bytes x)) ∙ short);
}

lessens_fewer : (a b : List ℕ) → length b ≤ length a → (o : Output) → Lessens (with_bytes a o) (with_bytes b o)
lessens_fewer a b fewer o = record {
  now = sends_less a b fewer o;
  filled = λ bytes short. ap sends_short (twice b bytes o) ∙ sym (ap sends_short (twice a bytes o)) ∙ short;
}

-- at each place the second is short where the first is
abbrev Follows : List Output → List Output → Type 0
Follows [] [] = Unit {0}
Follows [] (y ∷ ys) = ⊥
Follows (x ∷ xs) [] = ⊥
Follows (x ∷ xs) (y ∷ ys) = Lessens x y × Follows xs ys

follows_same : (xs : List Output) → Follows xs xs
follows_same [] = tt
follows_same (x ∷ xs) = (lessens_same x, follows_same xs)

follows_short : (xs ys : List Output) → Follows xs ys → AreShort xs → AreShort ys
follows_short [] [] follows short = refl
follows_short [] (y ∷ ys) follows short = absurd follows
follows_short (x ∷ xs) [] follows short = absurd follows
follows_short (x ∷ xs) (y ∷ ys) follows short =
    let both = and_parts (sends_short x) (list_all sends_short xs) short in
    and_from (sends_short y) (list_all sends_short ys) (follows.0.now both.0) (follows_short xs ys follows.1 both.1)

-- fewer bytes at a place
follows_fewer : (n : ℕ) (a b : List ℕ) → length b ≤ length a → (xs : List Output) → Follows (change_at n (with_bytes a) xs) (change_at n (with_bytes b) xs)
follows_fewer n a b fewer [] = tt
follows_fewer zero a b fewer (x ∷ xs) = (lessens_fewer a b fewer x, follows_same xs)
follows_fewer (suc n) a b fewer (x ∷ xs) = (lessens_same x, follows_fewer n a b fewer xs)

-- the same bytes at a place
follows_filled : (n : ℕ) (a : List ℕ) (xs ys : List Output) → Follows xs ys → Follows (change_at n (with_bytes a) xs) (change_at n (with_bytes a) ys)
follows_filled n a [] [] follows = tt
follows_filled n a [] (y ∷ ys) follows = absurd follows
follows_filled n a (x ∷ xs) [] follows = absurd follows
follows_filled zero a (x ∷ xs) (y ∷ ys) follows = (lessens_filled a x y follows.0, follows.1)
follows_filled (suc n) a (x ∷ xs) (y ∷ ys) follows = (follows.0, follows_filled n a xs ys follows.1)

follows_read : (reads : List PlanRead) (xs ys : List Output) → Follows xs ys → Follows (read_into zeros reads xs) (read_into zeros reads ys)
follows_read [] xs ys follows = follows
follows_read (read ∷ reads) xs ys follows =
    follows_read reads (change_at read.output (with_bytes (zeros read.extent)) xs) (change_at read.output (with_bytes (zeros read.extent)) ys)
    (follows_filled read.output (zeros read.extent) xs ys follows)

-- what is still to be read is short with zeros in place of its bytes, and stays so where no more
-- were read for a place
pub read_short : (reads : List PlanRead) (n : ℕ) (extent : Extent) (bytes : List ℕ) → length bytes ≤ extent.length → (outputs : List Output)
    → AreShort (read_into zeros reads (change_at n (with_bytes (zeros extent)) outputs))
    → AreShort (read_into zeros reads (change_at n (with_bytes bytes) outputs))
read_short reads n extent bytes few outputs short =
    let blank = change_at n (with_bytes (zeros extent)) outputs in
    let filled = change_at n (with_bytes bytes) outputs in
    follows_short (read_into zeros reads blank) (read_into zeros reads filled)
    (follows_read reads blank filled
    (follows_fewer n (zeros extent) bytes (subst (λ m. length bytes ≤ m) (sym (length-replicate extent.length 0)) few) outputs)) short

-- what is added to short outputs
pub short_together : (xs ys : List Output) → AreShort xs → AreShort ys → AreShort (xs ++ ys)
short_together xs ys front back = list_all-append sends_short xs ys ∙ and_from (list_all sends_short xs) (list_all sends_short ys) front back
