use Rattle.std.proofs.Common.{◌≡◌, ◌++◌, ◌∷◌, [], ℕ, List, ◌+◌, ◌%◌, ap, ◌∙◌}
use Rattle.std.specs.Prelude.{codes}
use Rattle.nqs_types.specs.declared.world.WorldEvent.{WorldEvent}
use Rattle.nqs_schedule.specs.Generated.{root_line, link_line}
use Rattle.nqs_schedule.proofs.Draws.{four_pushed}
use Rattle.nqs_schedule.proofs.draw.add_set_up.Goals as goal

-- a line of root, pushed
line_pushed : (host : ℕ) (old new : List WorldEvent) (e : WorldEvent) (text wanted : List ℕ) → new ≡ old ++ e ∷ [] → e ≡ root_line host text → text ≡ wanted
    → new ≡ old ++ root_line host wanted ∷ []
line_pushed host old new e text wanted pushed is same = pushed ∙ ap (λ (x : WorldEvent). old ++ x ∷ []) (is ∙ ap (root_line host) same)

pub returns : goal.returns
returns c =
    let host = c.args.host in
    four_pushed c.args.events.now c.push.new.self c.push-2.new.self c.push-3.new.self c.push-4.new.self
    (root_line host (link_line ((host + 1) % c.args.hosts))) (root_line host (codes "enable queue link")) (root_line host (codes "start queue link"))
    (root_line host (codes "start queue batch"))
    (line_pushed host _ _ _ _ _ c.in_ok-push.ensures.ok c.root_line.ensures c.in_ok-link_line.ensures)
    (line_pushed host _ _ _ _ _ c.in_ok-push-2.ensures.ok c.root_line-2.ensures c.in_ok-bytes_of.ensures)
    (line_pushed host _ _ _ _ _ c.in_ok-push-3.ensures.ok c.root_line-3.ensures c.in_ok-bytes_of-2.ensures)
    (line_pushed host _ _ _ _ _ c.in_ok-push-4.ensures.ok c.root_line-4.ensures c.in_ok-bytes_of-3.ensures)
