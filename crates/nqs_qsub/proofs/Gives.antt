-- What the words of an option give and which faults they have, as two relations.
use Rattle.std.proofs.Common.{◌≡◌, ◌⊎◌, inl, inr, ℕ, ◌+◌, List, Some, None, Result, Ok, Err, Bool, true, false, cond, refl, ap, sym, ◌∙◌}
use Rattle.nqs_base.proofs.Readings.{Reads, given, refused, reads-bind, reads-map, reads-or_fault}
use Rattle.nqs_types.specs.declared.fault.WordsFault.{WordsFault}
use Rattle.nqs_types.specs.declared.fault.WordsCause.{WordsCause}
use Rattle.nqs_types.specs.declared.fault.WordsCause.TheVariants as cause
use Rattle.nqs_qsub.specs.declared.token.Source.{Source}
use Rattle.nqs_qsub.specs.declared.token.Token.{Token}
use Rattle.nqs_qsub.specs.declared.options.Flag.{Flag}
use Rattle.nqs_qsub.specs.declared.options.Options.{Options}
use Rattle.nqs_qsub.specs.declared.reading.Progress.{Progress}
use Rattle.nqs_qsub.specs.Tokens.{Read, ◌>>=◌, or_fault, fault_at, located, stated, next_token, text_of}
use Rattle.nqs_qsub.specs.Options.{flag_of, is_given, is_both, fresh, takes_value, marked, valued, with_value, with_flag, one_option}
use Rattle.nqs_qsub.specs.Says.{MayStand, GivesMark, GivesValue}
use Rattle.nqs_qsub.specs.Faults.{NoValue, Misgiven}

pub reads-located : {A : Type 0} (line n : ℕ) (r : Result A WordsCause) → Reads (located line n r) (λ (a : A). r ≡ Ok a)
    (λ (f : WordsFault). (why : WordsCause) × (r ≡ Err why) × (f ≡ fault_at line n why))
reads-located {A} line n (Ok c) = ((λ a. ((λ e. cc), (λ e. cc))), (λ f. ((λ e. cc), (λ h. let no = h.1 in cc))))
reads-located {A} line n (Err why) = (
  (λ a. ((λ e. cc), (λ e. cc))),
  (λ f. (
    (λ e. (why, refl, refused {A = A} (fault_at line n why) f e)),
    (λ h. let same : why ≡ h.0 = let e = h.1 in cc in
        ap (λ (y : WordsCause). Err (fault_at line n y)) same ∙ ap (λ (y : WordsFault). Err y) (sym h.2)),
  )),
)

-- an option's value
reads-value : (source : Source) (words : List (List ℕ)) (text : List ℕ) (line n : ℕ) (token : Token) (o : Options) (f : Flag)
    → Reads (with_value source words text line n token o f)
    (λ (p : Progress). (value : Token) × (next_token source words text token.after ≡ Some value)
    × ((more : Options) × (valued o f (text_of words text value.at) (stated value.at line (n + 1)) ≡ Ok more)
    × (p ≡ record { options = more; number = n + 2; place = value.after })))
    (NoValue source words text line n token o f)
unfolding with_value
reads-value source words text line n token o f =
    reads-bind (or_fault (next_token source words text token.after) (fault_at line n cause.Missing))
    (λ (value : Token). located line (n + 1) (valued o f (text_of words text value.at) (stated value.at line (n + 1))) >>= (λ more. Ok (made value more)))
    (λ (value : Token). next_token source words text token.after ≡ Some value)
    (λ (x : WordsFault). (next_token source words text token.after ≡ None) × (x ≡ fault_at line n cause.Missing)) _ _
    (reads-or_fault (next_token source words text token.after) (fault_at line n cause.Missing))
    (λ (value : Token). reads-map (located line (n + 1) (valued o f (text_of words text value.at) (stated value.at line (n + 1)))) (made value)
    (λ (more : Options). valued o f (text_of words text value.at) (stated value.at line (n + 1)) ≡ Ok more)
    (λ (x : WordsFault). (why : WordsCause) × (valued o f (text_of words text value.at) (stated value.at line (n + 1)) ≡ Err why)
    × (x ≡ fault_at line (n + 1) why))
    (reads-located line (n + 1) (valued o f (text_of words text value.at) (stated value.at line (n + 1)))))
  where
    made : Token → Options → Progress
    made value more = record { options = more; number = n + 2; place = value.after }

-- whether it takes one or not
reads-flag : (t : Bool) (source : Source) (words : List (List ℕ)) (text : List ℕ) (line n : ℕ) (token : Token) (o : Options) (f : Flag)
    → Reads (with_flag t source words text line n token o f)
    (λ (p : Progress). ((t ≡ false) × (p ≡ record { options = marked o f; number = n + 1; place = token.after }))
    ⊎ ((t ≡ true) × ((value : Token) × (next_token source words text token.after ≡ Some value)
    × ((more : Options) × (valued o f (text_of words text value.at) (stated value.at line (n + 1)) ≡ Ok more)
    × (p ≡ record { options = more; number = n + 2; place = value.after })))))
    (λ (x : WordsFault). (t ≡ true) × NoValue source words text line n token o f x)
reads-flag true source words text line n token o f = (
  (λ p. ((λ e. inr (refl, ((reads-value source words text line n token o f).0 p).0 e)), from p)),
  (λ x. ((λ e. (refl, ((reads-value source words text line n token o f).1 x).0 e)), (λ h. ((reads-value source words text line n token o f).1 x).1 h.1))),
)
  where
    from : (p : Progress)
        → ((true ≡ false) × (p ≡ record { options = marked o f; number = n + 1; place = token.after }))
        ⊎ ((true ≡ true) × ((value : Token) × (next_token source words text token.after ≡ Some value)
        × ((more : Options) × (valued o f (text_of words text value.at) (stated value.at line (n + 1)) ≡ Ok more)
        × (p ≡ record { options = more; number = n + 2; place = value.after }))))
        → with_value source words text line n token o f ≡ Ok p
    from p (inl h) = let no = h.0 in cc
    from p (inr h) = ((reads-value source words text line n token o f).0 p).1 h.1
reads-flag false source words text line n token o f = (
  (λ p. ((λ e. inl (refl, given made p e)), from p)),
  (λ x. ((λ e. cc), (λ h. let no = h.0 in cc))),
)
  where
    made : Progress
    made = record { options = marked o f; number = n + 1; place = token.after }

    from : (p : Progress)
        → ((false ≡ false) × (p ≡ record { options = marked o f; number = n + 1; place = token.after }))
        ⊎ ((false ≡ true) × ((value : Token) × (next_token source words text token.after ≡ Some value)
        × ((more : Options) × (valued o f (text_of words text value.at) (stated value.at line (n + 1)) ≡ Ok more)
        × (p ≡ record { options = more; number = n + 2; place = value.after }))))
        → ◌≡◌ {A = Read Progress} (Ok (record { options = marked o f; number = n + 1; place = token.after })) (Ok p)
    from p (inl h) = ap (λ (q : Progress). Ok q) (sym h.1)
    from p (inr h) = let no = h.0 in cc

-- an option that may stand, or the fault of one that may not
reads-fresh : {B : Type 0} (given both : Bool) (line n : ℕ) (r : Read B) (P : B → Type 0) (F : WordsFault → Type 0) → Reads r P F
    → Reads (located line n (cond given (Err cause.Repeated) (cond both (Err cause.Both) (Ok tt))) >>= (λ (first : Unit {0}). r))
    (λ (b : B). ((given ≡ false) × (both ≡ false)) × P b)
    (λ (x : WordsFault). ((given ≡ true) × (x ≡ fault_at line n cause.Repeated))
    ⊎ (((given ≡ false) × ((both ≡ true) × (x ≡ fault_at line n cause.Both))) ⊎ (((given ≡ false) × (both ≡ false)) × F x)))
reads-fresh {B} true both line n r P F h = (
  (λ b. ((λ e. cc), (λ t. let no = t.0.0 in cc))),
  (λ x. ((λ e. inl (refl, cc)), from x)),
)
  where
    from : (x : WordsFault) → ((true ≡ true) × (x ≡ fault_at line n cause.Repeated))
        ⊎ (((true ≡ false) × ((both ≡ true) × (x ≡ fault_at line n cause.Both))) ⊎ (((true ≡ false) × (both ≡ false)) × F x))
        → ◌≡◌ {A = Read B} (Err (fault_at line n cause.Repeated)) (Err x)
    from x (inl t) = ap (λ (y : WordsFault). Err y) (sym t.1)
    from x (inr (inl t)) = let no = t.0 in cc
    from x (inr (inr t)) = let no = t.0.0 in cc
reads-fresh {B} false true line n r P F h = (
  (λ b. ((λ e. cc), (λ t. let no = t.0.1 in cc))),
  (λ x. ((λ e. inr (inl (refl, (refl, cc)))), from x)),
)
  where
    from : (x : WordsFault) → ((false ≡ true) × (x ≡ fault_at line n cause.Repeated))
        ⊎ (((false ≡ false) × ((true ≡ true) × (x ≡ fault_at line n cause.Both))) ⊎ (((false ≡ false) × (true ≡ false)) × F x))
        → ◌≡◌ {A = Read B} (Err (fault_at line n cause.Both)) (Err x)
    from x (inl t) = let no = t.0 in cc
    from x (inr (inl t)) = ap (λ (y : WordsFault). Err y) (sym t.1.1)
    from x (inr (inr t)) = let no = t.0.1 in cc
reads-fresh {B} false false line n r P F h = (
  (λ b. ((λ e. ((refl, refl), (h.0 b).0 e)), (λ t. (h.0 b).1 t.1))),
  (λ x. ((λ e. inr (inr ((refl, refl), (h.1 x).0 e))), from x)),
)
  where
    from : (x : WordsFault) → ((false ≡ true) × (x ≡ fault_at line n cause.Repeated))
        ⊎ (((false ≡ false) × ((false ≡ true) × (x ≡ fault_at line n cause.Both))) ⊎ (((false ≡ false) × (false ≡ false)) × F x)) → r ≡ Err x
    from x (inl t) = let no = t.0 in cc
    from x (inr (inl t)) = let no = t.1.0 in cc
    from x (inr (inr t)) = (h.1 x).1 t.1

-- what an option's word gives, behind the words before it
abbrev pub OptionGives : Source → List (List ℕ) → List ℕ → ℕ → ℕ → Token → Options → Progress → Type 0
OptionGives source words text line n token o p = (f : Flag) × (flag_of (text_of words text token.at) ≡ Some f)
    × (MayStand o f × (GivesMark n token o f p ⊎ GivesValue source words text line n token o f p))

abbrev pub OptionFails : Source → List (List ℕ) → List ℕ → ℕ → ℕ → Token → Options → WordsFault → Type 0
OptionFails source words text line n token o x =
    ((flag_of (text_of words text token.at) ≡ None) × (x ≡ fault_at line n cause.Unknown))
    ⊎ ((f : Flag) × (flag_of (text_of words text token.at) ≡ Some f) × Misgiven source words text line n token o f x)

pub reads-option : (source : Source) (words : List (List ℕ)) (text : List ℕ) (line n : ℕ) (token : Token) (o : Options)
    → Reads (one_option source words text line n token o) (OptionGives source words text line n token o) (OptionFails source words text line n token o)
unfolding one_option fresh
reads-option source words text line n token o =
    reads-bind (or_fault (flag_of (text_of words text token.at)) (fault_at line n cause.Unknown))
    (λ (f : Flag). located line n (fresh o f) >>= (λ first. with_flag (takes_value f) source words text line n token o f))
    (λ (f : Flag). flag_of (text_of words text token.at) ≡ Some f) (λ (x : WordsFault). (flag_of (text_of words text token.at) ≡ None)
    × (x ≡ fault_at line n cause.Unknown))
    (λ (f : Flag) (p : Progress). MayStand o f × (GivesMark n token o f p ⊎ GivesValue source words text line n token o f p))
    (Misgiven source words text line n token o)
    (reads-or_fault (flag_of (text_of words text token.at)) (fault_at line n cause.Unknown))
    (λ (f : Flag). reads-fresh (is_given o f) (is_both o f) line n (with_flag (takes_value f) source words text line n token o f)
    (λ (p : Progress). GivesMark n token o f p ⊎ GivesValue source words text line n token o f p)
    (λ (x : WordsFault). (takes_value f ≡ true) × NoValue source words text line n token o f x)
    (reads-flag (takes_value f) source words text line n token o f))
