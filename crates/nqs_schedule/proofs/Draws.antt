-- Schedules of a seed, made one event after another.
use Rattle.std.proofs.Common.{◌≡◌, ℕ, zero, suc, ◌+◌, ◌-◌, ◌<◌, ◌≤◌, List, [], ◌∷◌, ◌++◌, refl, ap, ap₂, sym, ◌∙◌, append_assoc, Some, true, arith}
use Rattle.std.proofs.lemmas.List.{append-nil}
use Rattle.std.specs.Fmt.{digits}
use Rattle.rand_pcg.specs.Lcg.{Lcg}
use Rattle.rand_pcg.specs.Pcg.{pcg32}
use Rattle.nqs_types.specs.declared.world.WorldEvent.{WorldEvent}
use Rattle.nqs_words.specs.Values.{is_name, name_of}
use Rattle.nqs_schedule.specs.Generated.{host_name, for_hosts, drawn, drawn_from, generated_site}

one_more : (n : ℕ) → n + 1 ≡ suc n
one_more n = omega arith

pub hosts_more : (f : ℕ → List WorldEvent) (n : ℕ) (old before new : List WorldEvent) → before ≡ old ++ for_hosts f n → new ≡ before ++ f n
    → new ≡ old ++ for_hosts f (n + 1)
unfolding for_hosts
hosts_more f n old before new so_far added =
    let more : for_hosts f (n + 1) ≡ for_hosts f n ++ f n = ap (for_hosts f) (one_more n) in
    added ∙ (ap (λ (l : List WorldEvent). l ++ f n) so_far ∙ (append_assoc old (for_hosts f n) (f n) ∙ ap (λ (l : List WorldEvent). old ++ l) (sym more)))

pub hosts_none : (f : ℕ → List WorldEvent) (old : List WorldEvent) → old ≡ old ++ for_hosts f 0
unfolding for_hosts
hosts_none f old = sym (append-nil old)

pub site_more : (n : ℕ) (before new : List (List ℕ)) (name : List ℕ) → before ≡ generated_site n → name ≡ host_name n → new ≡ before ++ name ∷ []
    → new ≡ generated_site (n + 1)
unfolding generated_site
site_more n before new name so_far named added =
    let more : generated_site (n + 1) ≡ generated_site n ++ host_name n ∷ [] = ap generated_site (one_more n) in
    added ∙ (ap₂ (λ (l : List (List ℕ)) (x : List ℕ). l ++ x ∷ []) so_far named ∙ sym more)

pub site_none : [] ≡ generated_site 0
unfolding generated_site
site_none = refl

-- one event more
pub drawn_more : (hosts k n i : ℕ) (g h : Lcg) (word : ℕ) (e : WorldEvent) (old new all : List WorldEvent) → i < n → (word, h) ≡ pcg32 g
    → e ≡ drawn hosts k word → new ≡ old ++ e ∷ []
    → old ++ drawn_from hosts k g (n - i) ≡ all → new ++ drawn_from hosts (k + 1) h (n - (i + 1)) ≡ all
unfolding drawn_from
drawn_more hosts k n i g h word e old new all less draws is pushed before =
    let w : word ≡ (pcg32 g).0 = ap (λ (p : ℕ × Lcg). p.0) draws in
    let s : h ≡ (pcg32 g).1 = ap (λ (p : ℕ × Lcg). p.1) draws in
    let size : n - i ≡ suc (n - (i + 1)) = omega arith in
    let more : drawn_from hosts k g (n - i) ≡ drawn hosts k (pcg32 g).0 ∷ drawn_from hosts (k + 1) (pcg32 g).1 (n - (i + 1)) = ap (drawn_from hosts k g) size in
    let tail : e ∷ drawn_from hosts (k + 1) h (n - (i + 1)) ≡ drawn_from hosts k g (n - i) =
    (λ j. (is ∙ ap (drawn hosts k) w) j ∷ drawn_from hosts (k + 1) (s j) (n - (i + 1))) ∙ sym more in
    rw pushed (append_assoc old (e ∷ []) (drawn_from hosts (k + 1) h (n - (i + 1))) ∙ (ap (λ (l : List WorldEvent). old ++ l) tail ∙ before))

pub drawn_end : (hosts k n i : ℕ) (g : Lcg) (old all : List WorldEvent) → n ≤ i → old ++ drawn_from hosts k g (n - i) ≡ all → old ≡ all
unfolding drawn_from
drawn_end hosts k n i g old all past before =
    let size : n - i ≡ 0 = omega arith in
    sym (append-nil old) ∙ (sym (ap (λ (m : ℕ). old ++ drawn_from hosts k g m) size) ∙ before)

-- the names of the hosts are names
host_named : (i : ℕ) → i < 16 → is_name (host_name i) ≡ true
unfolding is_name digits
host_named zero less = refl
host_named (suc zero) less = refl
host_named (suc (suc zero)) less = refl
host_named (suc (suc (suc zero))) less = refl
host_named (suc (suc (suc (suc zero)))) less = refl
host_named (suc (suc (suc (suc (suc zero))))) less = refl
host_named (suc (suc (suc (suc (suc (suc zero)))))) less = refl
host_named (suc (suc (suc (suc (suc (suc (suc zero))))))) less = refl
host_named (suc (suc (suc (suc (suc (suc (suc (suc zero)))))))) less = refl
host_named (suc (suc (suc (suc (suc (suc (suc (suc (suc zero))))))))) less = refl
host_named (suc (suc (suc (suc (suc (suc (suc (suc (suc (suc zero)))))))))) less = refl
host_named (suc (suc (suc (suc (suc (suc (suc (suc (suc (suc (suc zero))))))))))) less = refl
host_named (suc (suc (suc (suc (suc (suc (suc (suc (suc (suc (suc (suc zero)))))))))))) less = refl
host_named (suc (suc (suc (suc (suc (suc (suc (suc (suc (suc (suc (suc (suc zero))))))))))))) less = refl
host_named (suc (suc (suc (suc (suc (suc (suc (suc (suc (suc (suc (suc (suc (suc zero)))))))))))))) less = refl
host_named (suc (suc (suc (suc (suc (suc (suc (suc (suc (suc (suc (suc (suc (suc (suc zero))))))))))))))) less = refl
host_named (suc (suc (suc (suc (suc (suc (suc (suc (suc (suc (suc (suc (suc (suc (suc (suc n)))))))))))))))) less = absurd (omega arith)

pub host_read : (i : ℕ) → i < 16 → name_of (host_name i) ≡ Some (host_name i)
unfolding name_of
host_read i less = rw (host_named i less) refl

pub four_pushed : (old p q r s : List WorldEvent) (a b c d : WorldEvent) → p ≡ old ++ a ∷ [] → q ≡ p ++ b ∷ [] → r ≡ q ++ c ∷ [] → s ≡ r ++ d ∷ []
    → s ≡ old ++ (a ∷ b ∷ c ∷ d ∷ [])
four_pushed old p q r s a b c d w x y z =
    let moved : (((old ++ a ∷ []) ++ b ∷ []) ++ c ∷ []) ++ d ∷ [] ≡ old ++ (a ∷ b ∷ c ∷ d ∷ []) = simp append_assoc in
    z ∙ (ap (λ (l : List WorldEvent). l ++ d ∷ []) (y ∙ ap (λ (l : List WorldEvent). l ++ c ∷ []) (x ∙ ap (λ (l : List WorldEvent). l ++ b ∷ []) w)) ∙ moved)
