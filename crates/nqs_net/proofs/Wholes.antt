-- A run that keeps a change, where the disks made all calls of its commit, is the whole of it.
use Rattle.std.proofs.Common.{◌≡◌, inl, inr, ℕ, ◌+◌, ◌<◌, Bool, true, false, List, [], ◌∷◌, ◌++◌, length, refl, ap, ◌∙◌, arith}
use Rattle.std.specs.Prelude.{if◌then◌else◌}
use Rattle.std.proofs.lemmas.List.{length-append, length-map}
use Rattle.nqs_state.specs.State.{Plain}
use Rattle.nqs_types.specs.declared.world.Which.{Which}
use Rattle.nqs_types.specs.declared.world.Which.TheVariants.{Root, First, Second, Spool}
use Rattle.nqs_outside.specs.History.{Call, write, sync, failed, History}
use Rattle.nqs_journal.specs.Plan.{append_calls}
use Rattle.nqs_rules.specs.Journals.{is_due}
use Rattle.nqs_rules.specs.World.{spool_calls}
use Rattle.nqs_store.specs.Active.{Active, journal_of, ready}
use Rattle.nqs_store.specs.Commits.{IsBegun, Keeping, HasOneMore, before_record}
use Rattle.nqs_store.specs.Hosts.{HostCall, on, part, Runs, StopsShort}
use Rattle.nqs_store.specs.Plan.{puts_calls, checkpoint_calls, due_calls, commit_calls, CommitsBy}
use Rattle.nqs_net.proofs.Burns.{puts_count}

-- 1 for a call that was answered Ok
abbrev ok : Call → ℕ
ok (write place bytes true) = 1
ok (write place bytes false) = 0
ok (sync true) = 1
ok (sync false) = 0

-- how many were
abbrev oks : List Call → ℕ
oks [] = 0
oks (call ∷ calls) = ok call + oks calls

-- of all disks
abbrev host_oks : List HostCall → ℕ
host_oks [] = 0
host_oks (call ∷ calls) = ok call.1 + host_oks calls

oks_more : (xs ys : List Call) → oks (xs ++ ys) ≡ oks xs + oks ys
oks_more [] ys = omega arith
oks_more (call ∷ xs) ys = (let rest = oks_more xs ys in omega (arith, rest))

host_more : (xs ys : List HostCall) → host_oks (xs ++ ys) ≡ host_oks xs + host_oks ys
host_more [] ys = omega arith
host_more (call ∷ xs) ys = (let rest = host_more xs ys in omega (arith, rest))

host_on : (which : Which) (calls : List Call) → host_oks (on which calls) ≡ oks calls
host_on which [] = refl
host_on which (call ∷ calls) = ap (λ n. ok call + n) (host_on which calls)

-- those of the parts
by_disks : (run : List HostCall) → host_oks run ≡ oks (part Root run) + oks (part First run) + oks (part Second run) + oks (part Spool run)
by_disks [] = refl
by_disks ((Root, call) ∷ run) = (let rest = by_disks run in omega (arith, rest))
by_disks ((First, call) ∷ run) = (let rest = by_disks run in omega (arith, rest))
by_disks ((Second, call) ∷ run) = (let rest = by_disks run in omega (arith, rest))
by_disks ((Spool, call) ∷ run) = (let rest = by_disks run in omega (arith, rest))

-- a disk's calls grow by its part
grown : (old now : Which → History) (run : List HostCall) → Runs old now run → (which : Which)
    → oks (now which).calls ≡ oks (old which).calls + oks (part which run)
grown old now run runs which = ap (λ (h : History). oks h.calls) (runs which) ∙ oks_more (old which).calls (part which run)

-- two runs between the same have as many
as_many : (old now : Which → History) (run other : List HostCall) → Runs old now run → Runs old now other → host_oks run ≡ host_oks other
as_many old now run other one two =
    let r = grown old now run one Root in
    let r' = grown old now other two Root in
    let f = grown old now run one First in
    let f' = grown old now other two First in
    let s = grown old now run one Second in
    let s' = grown old now other two Second in
    let p = grown old now run one Spool in
    let p' = grown old now other two Spool in
    omega (arith, r, r', f, f', s, s', p, p', by_disks run, by_disks other)

at_most_one : (call : Call) → ok call < 2
at_most_one (write place bytes true) = omega arith
at_most_one (write place bytes false) = omega arith
at_most_one (sync true) = omega arith
at_most_one (sync false) = omega arith

none_failed : (call : Call) → ok (failed call) ≡ 0
none_failed (write place bytes answer) = refl
none_failed (sync answer) = refl

-- a part of a plan has fewer than the plan has calls
fewer : (planned run : List HostCall) → StopsShort planned run → host_oks run < length planned
fewer [] run short = absurd short
fewer (p ∷ planned) [] short = omega arith
fewer (p ∷ planned) (call ∷ []) (inl is) = (let none = ap (λ (c : HostCall). ok c.1) is ∙ none_failed p.1 in omega (arith, none))
fewer (p ∷ planned) (call ∷ []) (inr is) = (let rest = fewer planned [] is.1 in let one = at_most_one call.1 in omega (arith, rest, one))
fewer (p ∷ planned) (call ∷ next ∷ run) short = (let rest = fewer planned (next ∷ run) short.1 in let one = at_most_one call.1 in omega (arith, rest, one))

-- a plan's calls are all Ok

puts_oks : (places : List ℕ) (puts : List (List ℕ)) → oks (puts_calls places puts) ≡ length (puts_calls places puts)
puts_oks [] puts = refl
puts_oks (place ∷ places) [] = refl
puts_oks (place ∷ places) ([] ∷ puts) = puts_oks places puts
puts_oks (place ∷ places) ((byte ∷ bytes) ∷ puts) = (let rest = puts_oks places puts in omega (arith, rest))

abbrev due_count : Bool → ℕ
due_count b = if b then 4 else 0

due_oks : (a : Active) (snapshot : List ℕ) (b : Bool) → host_oks (if b then checkpoint_calls a snapshot else []) ≡ due_count b
due_oks a snapshot true = refl
due_oks a snapshot false = refl

due_length : (a : Active) (snapshot : List ℕ) (b : Bool) → length (if b then checkpoint_calls a snapshot else []) ≡ due_count b
due_length a snapshot true = refl
due_length a snapshot false = refl

module _ (a : Active) (puts : List (List ℕ)) (snapshot places : List ℕ) (gate : ℕ) (payload : List ℕ) (many : length places ≡ length puts) where
  abbrev due : List HostCall
  due = due_calls a snapshot

  abbrev spool : List HostCall
  spool = on Spool (puts_calls places puts)

  abbrev record_calls : List HostCall
  record_calls = on (journal_of (ready a)) (append_calls gate payload)

  all_count : ℕ
  all_count = due_count (is_due a.is_old a.records) + (spool_calls puts + 4)

  all_oks : host_oks (commit_calls a snapshot places puts gate payload) ≡ due_count (is_due a.is_old a.records) + (spool_calls puts + 4)
  all_oks = host_more due (spool ++ record_calls)
      ∙ ap (λ n. n + host_oks (spool ++ record_calls)) (due_oks a snapshot (is_due a.is_old a.records))
      ∙ ap (λ n. due_count (is_due a.is_old a.records) + n) (host_more spool record_calls
      ∙ ap (λ n. n + host_oks record_calls) (host_on Spool (puts_calls places puts) ∙ puts_oks places puts ∙ puts_count places puts many)
      ∙ ap (λ n. spool_calls puts + n) (host_on (journal_of (ready a)) (append_calls gate payload)))

  all_length : length (commit_calls a snapshot places puts gate payload) ≡ due_count (is_due a.is_old a.records) + (spool_calls puts + 4)
  all_length = length-append due (spool ++ record_calls)
      ∙ ap (λ n. n + length (spool ++ record_calls)) (due_length a snapshot (is_due a.is_old a.records))
      ∙ ap (λ n. due_count (is_due a.is_old a.records) + n) (length-append spool record_calls
      ∙ ap (λ n. n + length record_calls) (length-map {B = HostCall} (puts_calls places puts) (λ call. (Spool, call)) ∙ puts_count places puts many)
      ∙ ap (λ n. spool_calls puts + n) (length-map {B = HostCall} (append_calls gate payload) (λ call. (journal_of (ready a), call))))

-- where all calls were made, the journal has its record
pub kept_one_more : (a : Active) (puts : List (List ℕ)) (old now : Which → History) (before later : Plain)
    → CommitsBy (λ planned run. run ≡ planned) a puts old now → (k : Keeping a puts old now before later)
    → HasOneMore (before_record a k.calls.snapshot old) (now (journal_of (ready a)))
kept_one_more a puts old now before later c k = by k.calls.stands
  where
    by : IsBegun (commit_calls a k.calls.snapshot k.calls.places puts k.calls.gate k.calls.payload) k.calls.run
        → HasOneMore (before_record a k.calls.snapshot old) (now (journal_of (ready a)))
    by (inl whole) = k.one_more whole
    by (inr short) =
        let few = fewer (commit_calls a k.calls.snapshot k.calls.places puts k.calls.gate k.calls.payload) k.calls.run short in
        let all = as_many old now k.calls.run c.run k.calls.made c.made ∙ ap host_oks c.stands ∙ all_oks a puts c.snapshot c.places c.gate c.payload c.many in
        absurd (let no : ⊥ = omega (arith, few, all, all_length a puts k.calls.snapshot k.calls.places k.calls.gate k.calls.payload k.calls.many) in no)
