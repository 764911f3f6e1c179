-- Names read one after another.
use Rattle.std.proofs.Common.{◌≡◌, ℕ, suc, ◌+◌, ◌<◌, List, [], ◌∷◌, ◌++◌, length, drop, get_or, refl, ◌≤◌, ap, sym, ◌∙◌, append_assoc, Some, None, Option}
use Rattle.std.proofs.Common.{Result, Ok, Err, arith}
use Rattle.std.proofs.Math.Seq.{drop-cons}
use Rattle.std.proofs.lemmas.List.{append-nil, drop_all}
use Rattle.nqs_words.specs.Values.{name_of}
use Rattle.nqs_query.specs.Words.{with_name, names_of}

-- names that were read, and what the others give
abbrev pub joined : List (List ℕ) → ℕ → Result (List (List ℕ)) ℕ → Result (List (List ℕ)) ℕ
joined front n (Ok names) = Ok (front ++ names)
joined front n (Err place) = Err (n + place)

pub joined-more : (front : List (List ℕ)) (n : ℕ) (name : List ℕ) (r : Result (List (List ℕ)) ℕ)
    → joined front n (with_name (Some name) r) ≡ joined (front ++ name ∷ []) (n + 1) r
joined-more front n name (Ok names) = ap (λ (l : List (List ℕ)). Ok l) (sym (append_assoc front (name ∷ []) names))
joined-more front n name (Err place) = ap (λ (p : ℕ). Err p) (omega arith)

pub names-at : (words : List (List ℕ)) (i : ℕ) (d : List ℕ) → i < length words
    → names_of (drop i words) ≡ with_name (name_of (get_or words i d)) (names_of (drop (i + 1) words))
unfolding names_of
names-at words i d inside = let e = drop-cons words i d inside in let s : i + 1 ≡ suc i = omega arith in rw (s, e) refl

pub names_bad : (words front : List (List ℕ)) (i : ℕ) (d : List ℕ) → i < length words → d ≡ get_or words i d → name_of d ≡ None
    → joined front i (names_of (drop i words)) ≡ names_of words → names_of words ≡ Err i
names_bad words front i d less there none before =
    let at : names_of (drop i words) ≡ Err 0 = names-at words i d less ∙ (ap (λ (w : List ℕ). with_name (name_of w) (names_of (drop (i + 1) words))) (sym there)
    ∙ ap (λ (o : Option (List ℕ)). with_name o (names_of (drop (i + 1) words))) none) in
    let zero_more : i + 0 ≡ i = omega arith in
    sym before ∙ (ap (joined front i) at ∙ ap (λ (p : ℕ). Err p) zero_more)

pub names_more : (words front : List (List ℕ)) (i : ℕ) (d name : List ℕ) → i < length words → d ≡ get_or words i d → name_of d ≡ Some name
    → joined front i (names_of (drop i words)) ≡ names_of words → joined (front ++ name ∷ []) (i + 1) (names_of (drop (i + 1) words)) ≡ names_of words
names_more words front i d name less there some before =
    let others = names_of (drop (i + 1) words) in
    let at : names_of (drop i words) ≡ with_name (Some name) others = names-at words i d less
    ∙ (ap (λ (w : List ℕ). with_name (name_of w) others) (sym there) ∙ ap (λ (o : Option (List ℕ)). with_name o others) some) in
    sym (joined-more front i name others) ∙ (sym (ap (joined front i) at) ∙ before)

pub names_end : (words front : List (List ℕ)) (i : ℕ) → length words ≤ i → joined front i (names_of (drop i words)) ≡ names_of words → names_of words ≡ Ok front
unfolding names_of
names_end words front i past before =
    let none : drop i words ≡ [] = drop_all i words past in
    sym before ∙ (ap (λ (l : List (List ℕ)). joined front i (names_of l)) none ∙ ap (λ (l : List (List ℕ)). Ok l) (append-nil front))
