use Rattle.std.proofs.Common.{◌≡◌, ◌++◌, ℕ, List, Some, None, Option, ap, sym, ◌∙◌}
use Rattle.nqs_words.specs.Values.{name_of}
use Rattle.nqs_schedule.specs.Generated.{host_name}
use Rattle.nqs_schedule.proofs.Draws.{host_read}
use Rattle.nqs_schedule.proofs.draw.name_of_host.Goals as goal

one_name : (a b : List ℕ) → ◌≡◌ {A = Option (List ℕ)} (Some a) (Some b) → a ≡ b
one_name a b e = cc

no_name : (a : List ℕ) → ◌≡◌ {A = Option (List ℕ)} None (Some a) → ⊥
no_name a e = cc

pub unreachable-requires : goal.unreachable-requires
unreachable-requires c =
    let text = c.as_slice.ensures.value ∙ (c.in_ok-put_host_name.ensures ∙ ap (λ (l : List ℕ). l ++ host_name c.args.place) c.new-text.ensures.items) in
    no_name (host_name c.args.place) (sym c.in_default.is ∙ (c.name_of.ensures ∙ (ap name_of text ∙ host_read c.args.place c.requires)))

pub returns : goal.returns
returns c =
    let text = c.as_slice.ensures.value ∙ (c.in_ok-put_host_name.ensures ∙ ap (λ (l : List ℕ). l ++ host_name c.args.place) c.new-text.ensures.items) in
    one_name c.in-Some.name (host_name c.args.place) (c.in-Some.ensures ∙ (ap name_of text ∙ host_read c.args.place c.requires))
