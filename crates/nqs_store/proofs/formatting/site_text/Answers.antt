use Rattle.std.proofs.Common.{◌≡◌, Ok, sym, ap, subst, ◌∙◌}
use Rattle.nqs_types.specs.declared.change.Change.TheVariants.{Site}
use Rattle.nqs_records.specs.Changes.{MayStand}
use Rattle.nqs_records.specs.Kinds.{record_of}
use Rattle.nqs_store.proofs.formatting.site_text.Goals as goal

pub returns-in-Ok-clause-read : goal.returns-in-Ok-clause-read
returns-in-Ok-clause-read c =
    let me = c.args.me in
    let sites : c.from_vec.result ≡ c.args.site.now = c.from_vec.ensures ∙ c.in_ok-hosts.ensures.items_if_clones_equal (λ x y same. same) in
    ap record_of (sym c.deref.ensures.value)
    ∙ c.read_back.ensures (subst (λ s. MayStand (Site me s)) (sym sites) c.requires) (c.deref.ensures.value ∙ c.in-Ok.ensures.text)
    ∙ ap (λ s. Ok (Site me s)) sites
