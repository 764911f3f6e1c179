use Rattle.std.proofs.Common.{◌≡◌, ◌⊎◌, refl, inl, inr, IsTrue, Err, length, Option, option_map, sym, ap, subst, ◌∙◌}
use Rattle.std.proofs.Math.Nat.{le_trans}
use Rattle.std.proofs.lemmas.Result.{on_ok_weaker, on_err_weaker}
use Rattle.nqs_state.specs.State.{content}
use Rattle.nqs_types.specs.declared.change.Change.{Change}
use Rattle.nqs_base.specs.declared.extent.Extent.{Extent}
use Rattle.nqs_rules.specs.Starts.{after_change}
use Rattle.nqs_store.specs.Active.{ready, recorded}
use Rattle.nqs_store.specs.Stores.{disk_of, history_of, fails_of, is_starved, active_of, plain_of}
use Rattle.nqs_back.specs.Bare.{emptied, blank}
use Rattle.nqs_outside.specs.Causes.{Rose}
use Rattle.nqs_store.specs.declared.fault.StoreFault.TheVariants.{Disk}
use Rattle.nqs_node.specs.Carried.{Kept, after_kept, IsMade, IsSpelled, IsCutBy, IsBlown}
use Rattle.nqs_node.proofs.Performing.{still_broken_off, still_one, same_plain, none_kept, some_kept, made_since, broken_since, cut_since, moments_since}
use Rattle.nqs_node.proofs.Performing.{read_failed, spelled_since}
use Rattle.nqs_outside.proofs.Roses.{rose_since}
use Rattle.nqs_base.proofs.Plain.{anyway}
use Rattle.nqs_node.proofs.Places.{no_error, not_both}
use Rattle.nqs_node.proofs.Performing.{plain_since}
use Rattle.nqs_store.specs.Reads.{of_spool}
use Rattle.nqs_node.proofs.Asking.{asks_no_more}
use Rattle.nqs_node.proofs.perform.perform.Goals as goal

either : {A B C X : Type 0} → (B → X) → A ⊎ B → A ⊎ (C ⊎ X)
either f (inl a) = inl a
either f (inr b) = inr (inr (f b))

pub returns-in-Err-clause-performs : goal.returns-in-Err-clause-performs
returns-in-Err-clause-performs g c =
    let old = c.args.store.now in
    let mid = c.read_all.new.store in
    let host = content c.args.state.now in
    let spool = c.in-Err.ensures.spool in
    record {
      sound = c.requires.sound;
      site = refl;
      err = refl;
      stopped = λ is. not_both _ (spool.stopped is) c.requires.running;
      bare = tt;
      memory = λ failed. (spool.stays.0 ∙ c.requires.running, spool.stays.1);
      unchanged = λ yes failed. (spool.reads.same yes, spool.tells yes);
      told = λ yes told. tt;
      running = tt;
      broken = λ which failed.
          let is : c.in-Err.fault ≡ Disk which = cc in
          read_failed (λ w. Rose (g.D.Disk.faults (disk_of w old)) (g.D.Disk.faults (disk_of w mid))) c.in-Err.fault which
          spool.only is (λ at. (spool.failed (ap Err at)).rose);
      later = spool.reads.later;
      fuse = spool.reads.fuse;
      calls = λ kept with. record {
        plain = λ yes told. tt;
        made = λ yes. tt;
        active = tt;
        broken_off = λ yes. still_broken_off (active_of old) (history_of old) (history_of mid) (spool.reads.same yes) kept;
        cut = λ yes told which failed.
            let is : c.in-Err.fault ≡ Disk which = cc in
            read_failed (λ w. IsTrue (is_starved mid w) ⊎ (IsBlown (fails_of old w) (history_of old w)
            ⊎ IsCutBy (active_of old) (fails_of old) (history_of old) (history_of mid) kept (plain_of old host) w)) c.in-Err.fault which
            spool.only is (λ at. inr (inl ((spool.failed (ap Err at)).blown yes)));
        any_moment = λ yes told. still_one old mid (spool.reads.same yes) host yes told kept;
      };
    }

pub returns-in-None-clause-performs : goal.returns-in-None-clause-performs
returns-in-None-clause-performs g c =
    let old = c.args.store.now in
    let mid = c.read_all.new.store in
    let host = content c.args.state.now in
    let spool = c.in-Ok.ensures.spool in
    record {
      sound = c.requires.sound;
      site = refl;
      err = tt;
      stopped = λ is. absurd (no_error _ _ is);
      bare = ap (λ (o : Option (Change Extent)). after_change (option_map blank o) (emptied host)) (sym c.in-None.is);
      memory = λ is. absurd (no_error _ _ is);
      unchanged = λ yes is. absurd (no_error _ _ is);
      told = λ yes told. spool.tells yes host told;
      running = spool.stays.0 ∙ c.requires.running;
      broken = λ which is. absurd (no_error _ _ is);
      later = spool.reads.later;
      fuse = spool.reads.fuse;
      calls = λ kept with.
          let none = none_kept c.args.change c.args.puts.now kept c.in-None.is with in
          record {
            plain = λ yes told. same_plain old mid (spool.reads.same yes) host ∙ ap (λ (k : Kept). after_change k (plain_of old host)) none;
            made = λ yes.
                subst (λ (k : Kept). IsMade (active_of old) (fails_of old) (history_of old) (history_of mid) k) none (spool.reads.same yes);
            active = spool.stays.1 ∙ ap (λ (k : Kept). after_kept k (active_of old)) none;
            broken_off = λ yes. tt;
            cut = λ yes told which is. absurd (no_error _ _ is);
            any_moment = λ yes told. still_one old mid (spool.reads.same yes) host yes told kept;
          };
    }

pub returns-in-Some-clause-fills : goal.returns-in-Some-clause-fills
returns-in-Some-clause-fills g c =
    let fills = c.in-Ok.ensures.fills in
    record {
      as_many = fills.as_many;
      alike = fills.alike;
      filled = λ yes host told live. anyway c.keep.result (fills.filled yes host told live);
      short = λ was. anyway c.keep.result (fills.short was);
    }

pub returns-in-Some-clause-performs : goal.returns-in-Some-clause-performs
returns-in-Some-clause-performs g c =
    let old = c.args.store.now in
    let mid = c.read_all.new.store in
    let now = c.keep.new.store in
    let host = content c.args.state.now in
    let spool = c.in-Ok.ensures.spool in
    let makes = c.keep.ensures.makes in
    record {
      sound = makes.sound;
      site = makes.site;
      err = makes.err;
      stopped = λ is. not_both _ (c.keep.ensures.stopped is) (spool.stays.0 ∙ c.requires.running);
      bare = on_ok_weaker c.keep.result (λ made.
          made ∙ ap (λ (o : Option (Change Extent)). after_change (option_map blank o) (emptied host))
          (sym c.in-Some.is)) makes.bare;
      memory = λ failed. (
        (makes.memory failed).stopped ∙ spool.stays.0 ∙ c.requires.running,
        (makes.memory failed).active ∙ spool.stays.1,
      );
      unchanged = λ yes failed.
          let left = makes.memory failed in (
            λ which. ap g.D.Disk.history (left.same which) ∙ spool.reads.same yes which,
            λ host told. left.tells host (spool.tells yes host told),
          );
      told = λ yes told. makes.told yes (spool.tells yes host told);
      running = makes.stops.running;
      broken = λ which failed. rose_since _ _ _ (spool.reads.later which) (makes.stops.broken which failed).1;
      later = λ which. le_trans (spool.reads.later which) (makes.stops.later which);
      fuse = λ yes which i. makes.stops.fuse yes which i ∙ spool.reads.fuse yes which i;
      calls = λ kept with.
          let change = c.in-Some.change in
          let some = some_kept c.args.change change c.args.puts.now kept c.in-Some.is with in
          record {
            plain = λ yes told.
                on_ok_weaker c.keep.result (plain_since (active_of old) (active_of mid) spool.stays.1 (fails_of old) (fails_of mid) (history_of old)
                (history_of mid) (history_of now)
                (spool.reads.fuse yes) (spool.reads.same yes) change c.args.puts.now kept some (plain_of mid host) (plain_of old host)
                (same_plain old mid (spool.reads.same yes) host) (plain_of now (content c.keep.new.state))) (makes.plain yes (spool.tells yes host told));
            made = λ yes.
                on_ok_weaker c.keep.result (made_since (active_of old) (active_of mid) spool.stays.1 (fails_of old) (fails_of mid) (history_of old)
                (history_of mid) (history_of now)
                (spool.reads.fuse yes) (spool.reads.same yes) change c.args.puts.now kept some) (makes.calls.made yes);
            active =
                on_ok_weaker c.keep.result (λ turned.
                turned ∙ ap (λ x. recorded (ready x)) spool.stays.1 ∙ ap (λ (k : Kept). after_kept k (active_of old)) some.is) makes.active;
            broken_off = λ yes.
                on_err_weaker c.keep.result (broken_since (active_of old) (active_of mid) spool.stays.1 (fails_of old) (fails_of mid) (history_of old)
                (history_of mid) (history_of now)
                (spool.reads.fuse yes) (spool.reads.same yes) change c.args.puts.now kept some) (makes.calls.broken_off yes);
            cut = λ yes told which failed.
                either (cut_since (active_of old) (active_of mid) spool.stays.1 (fails_of old) (fails_of mid) (history_of old) (history_of mid) (history_of now)
                (spool.reads.fuse yes) (spool.reads.same yes) change c.args.puts.now kept some (plain_of mid host) (plain_of old host)
                (same_plain old mid (spool.reads.same yes) host) which) (makes.calls.cut yes (spool.tells yes host told) which failed);
            any_moment = λ yes told.
                moments_since (active_of old) (active_of mid) spool.stays.1 (fails_of old) (fails_of mid) (history_of old) (history_of mid) (history_of now)
                (spool.reads.fuse yes) (spool.reads.same yes) change c.args.puts.now kept some (plain_of mid host) (plain_of old host)
                (same_plain old mid (spool.reads.same yes) host) (makes.calls.any_moment yes (spool.tells yes host told));
          };
    }

pub returns-in-None-clause-spelled : goal.returns-in-None-clause-spelled
returns-in-None-clause-spelled g c = λ yes told kept with.
    subst (λ (k : Kept). IsSpelled (active_of c.args.store.now) (history_of c.args.store.now) (history_of c.read_all.new.store) k)
    (none_kept c.args.change c.args.puts.now kept c.in-None.is with) (c.in-Ok.ensures.spool.reads.same yes)

pub returns-in-Some-clause-spelled : goal.returns-in-Some-clause-spelled
returns-in-Some-clause-spelled g c = λ yes told kept with.
    let old = c.args.store.now in
    let mid = c.read_all.new.store in
    let spool = c.in-Ok.ensures.spool in
    let change = c.in-Some.change in
    on_ok_weaker c.keep.result (spelled_since (active_of old) (active_of mid) spool.stays.1 (fails_of old) (fails_of mid) (history_of old) (history_of mid)
    (history_of c.keep.new.store) (spool.reads.fuse yes) (spool.reads.same yes) change c.args.puts.now kept
    (some_kept c.args.change change c.args.puts.now kept c.in-Some.is with))
    (c.keep.ensures.spelled yes (spool.tells yes (content c.args.state.now) told))

pub returns-in-Some-clause-asks : goal.returns-in-Some-clause-asks
returns-in-Some-clause-asks g c =
    asks_no_more c.args.store.now c.read_all.new.store c.keep.new.store (of_spool (length c.args.reads.now)) c.in-Ok.ensures.asks c.keep.ensures.unread
