use Rattle.std.proofs.Common.{◌≡◌, ℕ, suc, ◌+◌, ◌-◌, ◌<◌, ◌≤◌, List, [], ◌∷◌, ◌++◌, length, drop, arith, refl, ap, ◌∙◌, sym, Some, None, append_assoc, cond}
use Rattle.std.proofs.Common.{Bool, true, false, ◌==◌}
use Rattle.std.proofs.Math.Seq.{drop-drop}
use Rattle.nqs_words.specs.Quoted.{Quoted, after, step_of, escape_of, quoted, by_step}
use Rattle.nqs_words.specs.declared.quoted.Step.{Step}
use Rattle.nqs_words.specs.declared.quoted.Step.TheVariants.{End, Bad, Byte}

pub after-after : (v w : List ℕ) (q : Quoted) → after v (after w q) ≡ after (v ++ w) q
after-after v w None = refl
after-after v w (Some p) = ap (λ (l : List ℕ). Some (l, p.1)) (sym (append_assoc v w p.0))

pub quoted-step : (n i : ℕ) (bytes : List ℕ) → i < n → quoted (n - i) bytes ≡ by_step bytes (step_of bytes) (quoted (n - (i + 1)))
unfolding quoted
quoted-step n i bytes less = let e : n - i ≡ suc (n - (i + 1)) = omega arith in ap (λ (k : ℕ). quoted k bytes) e

pub quoted-none : (n i : ℕ) (bytes : List ℕ) → n ≤ i → quoted (n - i) bytes ≡ None
unfolding quoted
quoted-none n i bytes past = let e : n - i ≡ 0 = omega arith in ap (λ (k : ℕ). quoted k bytes) e

-- a step stays within the bytes
Inside : ℕ → Step → Type 0
Inside n End = 1 ≤ n
Inside n Bad = Unit {0}
Inside n (Byte b taken) = taken ≤ n

in_cond : (n : ℕ) (t : Bool) (x y : Step) → Inside n x → Inside n y → Inside n (cond t x y)
in_cond n true x y a b = a
in_cond n false x y a b = b

escape_inside : (bs : List ℕ) → Inside (suc (length bs)) (escape_of bs)
unfolding Inside
escape_inside [] = tt
escape_inside (c ∷ cs) = let n = suc (suc (length cs)) in
    in_cond n (c == 110) (Byte 10 2) _ (omega arith) (in_cond n (c == 34) (Byte 34 2) _ (omega arith) (in_cond n (c == 92) (Byte 92 2) Bad (omega arith) tt))

step_inside : (bs : List ℕ) → Inside (length bs) (step_of bs)
unfolding step_of Inside
step_inside [] = tt
step_inside (b ∷ bs) = in_cond (suc (length bs)) (b == 34) End _ (omega arith)
    (in_cond (suc (length bs)) (b == 92) (escape_of bs) (Byte b 1) (escape_inside bs) (omega arith))

pub byte_inside : (bs : List ℕ) (b taken : ℕ) → Byte b taken ≡ step_of bs → taken ≤ length bs
unfolding Inside
byte_inside bs b taken is = rw (← is) at (step_inside bs)

pub end_inside : (bs : List ℕ) → End ≡ step_of bs → 1 ≤ length bs
unfolding Inside
end_inside bs is = rw (← is) at (step_inside bs)

pub turned : (n i : ℕ) (rest word : List ℕ) (all : Quoted) (s : Step) → i < n → s ≡ step_of rest → after word (quoted (n - i) rest) ≡ all
    → after word (by_step rest s (quoted (n - (i + 1)))) ≡ all
turned n i rest word all s less is before =
    ap (λ (t : Step). after word (by_step rest t (quoted (n - (i + 1))))) is ∙ (ap (after word) (sym (quoted-step n i rest less)) ∙ before)

pub drops : (m i : ℕ) (xs : List ℕ) → drop m (drop i xs) ≡ drop (i + m) xs
drops m i xs = drop-drop m i xs
