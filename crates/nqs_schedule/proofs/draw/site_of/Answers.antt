use Rattle.std.proofs.Common.{◌≡◌, ◌++◌, ◌∷◌, [], ◌∙◌, rules}
use Rattle.nqs_schedule.proofs.Draws.{site_none, site_more}
use Rattle.nqs_schedule.proofs.draw.site_of.Goals as goal

pub loop-host-init : goal.loop-host-init
loop-host-init c = record { so_far = c.new-site.ensures.items ∙ site_none }

pub loop-host-preserved : goal.loop-host-preserved
loop-host-preserved c =
    let pushed : c.push.new.self.items ≡ c.loop-host.site.items ++ c.in_ok-name_of_host.field-0 ∷ [] = search rules in
    record {
      so_far = site_more c.loop-host.host c.loop-host.site.items c.push.new.self.items c.in_ok-name_of_host.field-0 c.loop-host.invariant.so_far
          c.in_ok-name_of_host.ensures pushed;
    }
