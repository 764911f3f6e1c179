-- The root of a host's disks, which a checkpoint turns over.
use Rattle.std.proofs.Common.{◌≡◌, ℕ, Bool, true, false, not, List, [], ◌∷◌, ◌++◌, refl, sym, ap, ◌∙◌}
use Rattle.std.specs.Prelude.{if◌then◌else◌}
use Rattle.nqs_types.specs.declared.world.Which.{Which}
use Rattle.nqs_types.specs.declared.world.Which.TheVariants.{Root, Spool}
use Rattle.std.proofs.lemmas.List.{append-nil}
use Rattle.nqs_outside.specs.History.{State, History, fresh, step, sync, after, content, state, extended, IsQuiet}
use Rattle.nqs_outside.proofs.Histories.{state-extended}
use Rattle.nqs_journal.specs.Plan.{begin_calls, append_calls}
use Rattle.nqs_rules.specs.Journals.{is_second, byte_of, turned, is_due}
use Rattle.nqs_rules.specs.World.{Host, turns_over, ready}
use Rattle.nqs_storage_tears.proofs.TornRoots.{write_turns}
use Rattle.nqs_store.specs.Active.{Active, journal_of, ready as ready_in}
use Rattle.nqs_store.specs.Commits.{IsKept}
use Rattle.nqs_store.specs.Hosts.{on, part}
use Rattle.nqs_store.specs.Plan.{puts_calls, due_calls, commit_calls}
use Rattle.nqs_store.proofs.HostRuns.{part_other, part_append}
use Rattle.nqs_net.specs.Worlds.{active_in}
use Rattle.nqs_net.proofs.Parts.{root_other}
use Rattle.nqs_net.proofs.Burns.{root_due}

-- the root that a host has behind a checkpoint, where one was due
pub ready_root : (host : Host) → (ready host).root ≡ (if is_due host.is_old host.records then turned host.root else host.root)
ready_root host = by (is_due host.is_old host.records)
  where
    by : (b : Bool) → (if b then turns_over host else host).root ≡ (if b then turned host.root else host.root)
    by true = refl
    by false = refl

-- a root after the calls that turn it over, or after none
pub root_after : (h k : History) (root : List ℕ) (b : Bool) → IsQuiet h → content h ≡ root
    → k ≡ extended h (if b then begin_calls (byte_of (not (is_second root)) ∷ []) else []) → state k ≡ fresh (if b then turned root else root)
root_after h k root true quiet is made =
    let calls = begin_calls (byte_of (not (is_second root)) ∷ []) in
    ap state made ∙ state-extended h calls ∙ ap (λ s. after s calls) (quiet ∙ ap fresh is) ∙ ap (λ s. step s (sync true)) (write_turns root true)
root_after h k root false quiet is made = ap state made ∙ state-extended h [] ∙ quiet ∙ ap fresh is

-- the part of the root in a commit's calls
pub root_part : (a : Active) (snapshot places : List ℕ) (puts : List (List ℕ)) (gate : ℕ) (payload : List ℕ)
    → part Root (commit_calls a snapshot places puts gate payload) ≡ (if is_due a.is_old a.records then begin_calls (byte_of (not a.second) ∷ []) else [])
root_part a snapshot places puts gate payload =
    let due = due_calls a snapshot in
    let spool = on Spool (puts_calls places puts) in
    let record_calls = on (journal_of (ready_in a)) (append_calls gate payload) in
    part_append Root due (spool ++ record_calls)
    ∙ ap (λ l. part Root due ++ l) (part_append Root spool record_calls
    ∙ ap (λ l. l ++ part Root record_calls) (part_other Root Spool (puts_calls places puts) refl)
    ∙ part_other Root (journal_of (ready_in a)) (append_calls gate payload) (root_other (ready_in a).second))
    ∙ append-nil (part Root due) ∙ root_due a snapshot (is_due a.is_old a.records)

-- the root after a change was kept
pub kept_root : (host : Host) (fails : Which → ℕ → Bool) (puts : List (List ℕ)) (old now : Which → History) → IsQuiet (old Root)
    → content (old Root) ≡ host.root → IsKept (active_in host) fails puts old now → content (now Root) ≡ (ready host).root
kept_root host fails puts old now quiet is kept =
    let c = kept.calls in
    let made = c.made Root ∙ ap (λ l. extended (old Root) (part Root l)) c.stands
    ∙ ap (extended (old Root)) (root_part (active_in host) c.snapshot c.places puts c.gate c.payload) in
    ap (λ (s : State). s.content) (root_after (old Root) (now Root) host.root (is_due host.is_old host.records) quiet is made) ∙ sym (ready_root host)
