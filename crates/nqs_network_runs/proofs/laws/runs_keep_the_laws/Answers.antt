use Rattle.std.proofs.Common.{◌≡◌, false, map, take, sym, subst}
use Rattle.nqs_rules.specs.World.{new_world}
use Rattle.nqs_laws.specs.Launches.{lies}
use Rattle.nqs_laws.specs.Sane.{AreSane}
use Rattle.nqs_network_runs.specs.Headline.{last_states, first_states, notes_of}
use Rattle.nqs_language_acts.specs.Acts.{act_of}
use Rattle.nqs_network_runs.proofs.Asked.{sane_asked, site_asked}
use Rattle.nqs_network_runs.proofs.Changes.{each_keeps}
use Rattle.nqs_network_runs.proofs.Rests.{last_taker_rests}
use Rattle.nqs_network_runs.proofs.Runs.{sane_before}
use Rattle.nqs_network_runs.proofs.laws.runs_keep_the_laws.Goals as goal

pub returns : goal.returns
returns c = λ words source site events asks n.
    let acts = map act_of (take n events) in
    let right = site_asked words source site events c.sites_are_right.ensures.read c.sites_are_right.ensures.generated asks in
    let all = sane_asked words source site events c.schedules_are_sane.ensures c.generated_schedules_are_sane.ensures asks in
    let sane = c.acts_are_sane.ensures (take n events) (sane_before events n all) in
    record {
      told = record {
        seen = c.history_tells_the_run.ensures.seen acts (new_world site);
        states = c.history_tells_the_run.ensures.states acts (new_world site) sane;
        order = c.hosts_stay_in_order.ensures site acts right sane;
        causes = c.events_make_their_own_changes.ensures acts (new_world site);
      };
      requests = record {
        place = c.no_request_lies_in_two_places.ensures site acts right sane;
        licensed = c.each_change_is_licensed.ensures site acts right sane;
        changes = each_keeps (first_states site) (notes_of site acts)
            (c.submissions_give_numbers.ensures.moves site acts right sane) (c.submissions_give_numbers.ensures.news site acts right sane)
            (c.boots_purges_and_aborts_leave_none.ensures site acts right sane) (c.ticks_take_back_all.ensures.kept site acts right sane)
            (c.the_system_holds_for_cause.ensures site acts right sane) (c.requests_go_out_for_a_reason.ensures.each site acts right sane)
            (c.ends_of_promises_close_their_numbers.ensures.own site acts right sane)
            (c.ends_of_promises_close_their_numbers.ensures.only site acts right sane);
        stay = c.acknowledged_requests_stay.ensures site acts right sane;
        other = c.no_other_request_lies.ensures site acts right sane;
        out = λ before after split x went. subst (λ a. lies x (last_states site a) ≡ false) (sym split)
            (c.what_is_taken_out_stays_out.ensures site before after right (subst AreSane split sane) x went);
        given = c.requests_are_numbered.ensures site acts right sane;
        scripts = c.scripts_are_kept.ensures site acts right sane;
      };
      launches = record {
        once = c.no_launch_comes_twice.ensures site acts right sane;
        apart = c.launches_are_apart.ensures site acts right sane;
        numbered = c.launches_are_numbered.ensures site acts right sane;
        counted = c.starts_are_counted.ensures.hosts site acts right sane;
        lost = c.only_rerunnable_requests_start_again.ensures.hosts site acts right sane;
        boots = c.boots_tell_what_ran.ensures site acts right sane;
        rests = last_taker_rests site acts right sane c.nothing_is_left_to_start.ensures;
      };
      handovers = record {
        pairs = λ from to s t here there. record {
          step = c.handovers_are_in_step.ensures site acts right sane from to s t here there;
          few = c.handovers_are_few.ensures site acts right sane from to s t here there;
          near = c.taken_numbers_are_near.ensures site acts right sane from to s t here there;
          load = c.promises_keep_what_is_handed_over.ensures.offered site acts right sane from to s t here there;
          errand = c.promises_keep_what_is_handed_over.ensures.committed site acts right sane from to s t here there;
        };
        packets = λ m sent s t here there. record {
          stays = c.messages_stay_true.ensures site acts right sane m sent s t here there;
          number = c.packets_have_given_numbers.ensures site acts right sane m sent s t here there;
        };
        finds = λ m sent s t here there. record {
          offered = λ number low queue load script is.
              c.open_offers_find_no_row.ensures site acts right sane m number low queue load script sent is s t here there;
          committed = λ number p is. c.accepted_requests_find_no_row.ensures site acts right sane m number p sent is s t here there;
        };
      };
      settled = record {
        promises = c.promises_are_settled.ensures site acts right sane;
        commitments = c.commitments_are_settled.ensures site acts right sane;
      };
    }
