use Rattle.std.proofs.Common.{◌≡◌, ◌∙◌, ℕ, List, sym, ap}
use Rattle.nqs_types.specs.declared.event.Command.{Command}
use Rattle.nqs_types.specs.declared.ids.HostId.{HostId}
use Rattle.nqs_types.specs.declared.world.WorldEvent.{WorldEvent}
use Rattle.nqs_rules.specs.World.{Asks, World as Network}
use Rattle.nqs_language_acts.specs.Acts.{act_of, qsub_command}
use Rattle.nqs_net.specs.Deeds.{deed_of}
use Rattle.nqs_net.proofs.meaning.deed.Goals as goal

-- a host is asked for this, in two ways to say it
asks : (h : HostId) (user : List ℕ) (w : Network) (one other : Command) → one ≡ other → deed_of (Asks h user one) w ≡ deed_of (Asks h user other) w
asks h user w one other same = ap (λ command. deed_of (Asks h user command) w) same

pub returns-in-Submit : goal.returns-in-Submit
returns-in-Submit c = λ w at same.
    c.ask.ensures w at ∙ asks _ c.in-Submit.user w _ _ c.submit_command.ensures
    ∙ sym (ap (λ (e : WorldEvent). deed_of (act_of e) w) c.in-Submit.is)

pub returns-in_ok-qsub_command-in-Qsub : goal.returns-in_ok-qsub_command-in-Qsub
returns-in_ok-qsub_command-in-Qsub c = λ w at same.
    c.ask-in-Qsub.ensures w at
    ∙ asks c.in-Qsub.host c.in-Qsub.user w _ _ (c.in_ok-qsub_command-in-Qsub.ensures
    ∙ ap (λ words. qsub_command c.in-Qsub.user words c.as_slice-script.result.now) c.as_slice-words.ensures
    ∙ ap (λ script. qsub_command c.in-Qsub.user c.in-Qsub.words script) c.as_slice-script.ensures)
    ∙ sym (ap (λ (e : WorldEvent). deed_of (act_of e) w) c.in-Qsub.is)

pub returns-in-Qmgr : goal.returns-in-Qmgr
returns-in-Qmgr c = λ w at same.
    c.ask-in-Qmgr.ensures w at
    ∙ asks c.in-Qmgr.host c.in-Qmgr.user w _ _ (rw c.as_slice.ensures at c.qmgr_command.ensures)
    ∙ sym (ap (λ (e : WorldEvent). deed_of (act_of e) w) c.in-Qmgr.is)

pub returns-in_ok-qstat_command-in-Qstat : goal.returns-in_ok-qstat_command-in-Qstat
returns-in_ok-qstat_command-in-Qstat c = λ w at same.
    c.ask-in-Qstat.ensures w at
    ∙ asks c.in-Qstat.host c.in-Qstat.user w _ _ (rw c.as_slice-in-Qstat.ensures at c.in_ok-qstat_command-in-Qstat.ensures)
    ∙ sym (ap (λ (e : WorldEvent). deed_of (act_of e) w) c.in-Qstat.is)

pub returns-in-Qdel : goal.returns-in-Qdel
returns-in-Qdel c = λ w at same.
    c.ask-in-Qdel.ensures w at
    ∙ asks c.in-Qdel.host c.in-Qdel.user w _ _ (rw c.as_slice-in-Qdel.ensures at c.qdel_command.ensures)
    ∙ sym (ap (λ (e : WorldEvent). deed_of (act_of e) w) c.in-Qdel.is)
