use Rattle.std.proofs.Common.{rules, ◌≡◌, ◌∙◌, IsTrue, refl, sym, ap, subst, map, length}
use Rattle.std.proofs.lemmas.List.{length-map}
use Rattle.nqs_base.specs.Extents.{extent_bytes}
use Rattle.nqs_state.specs.State.{content}
use Rattle.nqs_types.specs.declared.world.Which.TheVariants.{Spool}
use Rattle.nqs_outside.specs.History.{content as content_of}
use Rattle.nqs_journal.specs.Either.{front_of}
use Rattle.nqs_journal.specs.Open as journal
use Rattle.nqs_spool.specs.Spooled as spool
use Rattle.nqs_rules.specs.Applied.{applied}
use Rattle.nqs_rules.specs.Filled.{filled}
use Rattle.nqs_rules.specs.Plain.{map_state}
use Rattle.nqs_rules.specs.Stepped.{map_change, no_extent}
use Rattle.nqs_store.specs.Live.{live}
use Rattle.nqs_store.specs.Puts.{place_of}
use Rattle.nqs_store.specs.Putting.{ArePutFor}
use Rattle.nqs_store.specs.Stores.{Tells, plain_of, history_of}
use Rattle.nqs_store.proofs.Filled.{shape_kept}
use Rattle.nqs_store.proofs.Committed.{IsPut, plain_kept, told_after, spool_image, put_tells, filled_now, plain_now, records_now, account, spool_tells}
use Rattle.nqs_store.proofs.Changed.{tells_later, spool_rest, spool_failed, journal_failed, all_done, cut_spool, cut_record, same_which, spool_at, record_at}
use Rattle.nqs_store.proofs.Changed.{record_clear, all_spelled}
use Rattle.nqs_store.proofs.EachDisk.{journal_kept}
use Rattle.nqs_store.specs.declared.fault.StoreFault.TheVariants.{Disk}
use Rattle.nqs_store.proofs.Kept.{stops_at, rose_at}
use Rattle.nqs_store.proofs.Rooms.{grown}
use Rattle.nqs_store.proofs.Asking.{none_by}
use Rattle.nqs_store.proofs.store.Store.keep_change.Goals as goal
use Rattle.nqs_store.proofs.store.Store.keep_change.Goals.{After-append_to}
use Rattle.nqs_store.proofs.store.Store.keep_change.Given.{Over}

-- the puts were made
done_of : (g : Over) (c : After-append_to g) → ArePutFor c.args.change.now c.put_bytes.new.change c.args.puts.now c.deref.result.now c.args.self.now.spool
    c.put_bytes.new.spool
done_of g c = subst (λ l. ArePutFor c.args.change.now c.put_bytes.new.change c.args.puts.now l c.args.self.now.spool c.put_bytes.new.spool)
    (sym c.deref.ensures.value) c.in-Ok.ensures.done

put_of : (g : Over) (c : After-append_to g) → IsTrue g.D.Disk.tells → Tells c.args.self.now (content c.args.state.now)
    → IsPut c.args.self.now (content c.args.state.now) c.args.change.now c.put_bytes.new.change c.args.puts.now c.deref.result.now c.put_bytes.new.spool
put_of g c told tells = record {
  fine = c.requires.may.fits;
  many = c.requires.may.as_many;
  done = done_of g c;
  still = λ x script has holds. c.in-Ok.ensures.puts.still told (live (content c.args.state.now)) tells.spool x script has holds;
  kept = λ t image from to leaves x script has holds. c.in-Ok.ensures.puts.kept told
      (live (content c.args.state.now)) tells.spool x script has holds t image from to
      leaves;
}

many_of : (g : Over) (c : After-append_to g) → length (map place_of (done_of g c).are_put.added) ≡ length c.args.puts.now
many_of g c = length-map (done_of g c).are_put.added place_of ∙ (done_of g c).are_put.many

pub returns-in-Err-clause-calls : goal.returns-in-Err-clause-calls
returns-in-Err-clause-calls g c =
    let o = c.args.self.now in
    let host = content c.args.state.now in
    let e = c.in-Err.ensures.puts in
    record {
      made = λ told. tt;
      spool = λ told. tt;
      journal = λ told. tt;
      broken_off = λ told.
          spool_failed o _ c.args.puts.now host _ told (e.broken told) (spool_rest (history_of o) _ refl refl refl)
          (λ tells t image from to leaves x script has holds. e.kept told (live host) tells.spool x script has holds t image from to leaves);
      cut = λ told tells which is.
          let mid = c.put_bytes.new.spool in
          let put = e.broken told in
          spool_at o _ c.args.puts.now _ _ which (same_which Spool which is)
          (cut_spool o _ c.args.puts.now host _ told tells refl
          (λ t image from to leaves x script has holds. e.kept told (live host) tells.spool x script has holds t image from to leaves)
          (grown (history_of o Spool) (spool.history_of mid) put.calls put.made) (g.D.Disk.starved (spool.disk_of mid))
          (journal_kept o _ o.on_second refl refl) (e.failing told));
    }

-- only extents were set
shape_of : (g : Over) (c : After-append_to g) → map_change (λ _. no_extent) c.put_bytes.new.change ≡ map_change (λ _. no_extent) c.args.change.now
shape_of g c = ap (map_change (λ _. no_extent)) c.in-Ok.ensures.done.change ∙ shape_kept c.args.change.now c.in-Ok.ensures.done.extents

pub returns-in-Err-append_to-clause-keeps : goal.returns-in-Err-append_to-clause-keeps
returns-in-Err-append_to-clause-keeps g c =
    let k = (goal.at.returns-in-Err-append_to-clause-keeps g c).After-append_to in
    record {
      stands = tt;
      shape = shape_of g k;
      filled = λ told tells. tt;
      kept = λ told tells. tt;
      told = λ told tells. tt;
      active = tt;
      plain = λ told tells. tt;
    }

pub returns-in-Err-append_to-clause-stops : goal.returns-in-Err-append_to-clause-stops
returns-in-Err-append_to-clause-stops g c =
    let o = c.args.self.now in
    let puts = c.put_bytes.ensures.puts in
    let appends = c.append_to.ensures.appends in
    stops_at o _ Disk _ o.on_second tt
    (λ which is. (refl, rose_at o _ o.on_second which (sym c.journal_disk.ensures ∙ same_which _ which is) c.in-Err-append_to.ensures.appends.fault)) refl
    c.append_to.ensures.rest appends.later appends.fuse puts.later puts.fuse

pub returns-in-Err-append_to-clause-calls : goal.returns-in-Err-append_to-clause-calls
returns-in-Err-append_to-clause-calls g c =
    let k = (goal.at.returns-in-Err-append_to-clause-calls g c).After-append_to in
    let o = c.args.self.now in
    let host = content c.args.state.now in
    let short = c.in-Err-append_to.ensures.appends.short in
    record {
      made = λ told. tt;
      spool = λ told. tt;
      journal = λ told. tt;
      broken_off = λ told.
          journal_failed o _ c.args.puts.now host _ told c.args.change.now c.put_bytes.new.change c.deref.result.now c.put_bytes.new.spool (done_of g k)
          (put_of g k told) (many_of g k) refl c.append_to.ensures.rest refl refl short;
      cut = λ told tells which is.
          let mid = spool.history_of c.put_bytes.new.spool in
          let p = put_of g k told tells in
          record_at o _ c.args.puts.now _ _ which (sym c.journal_disk.ensures ∙ same_which _ which is)
          (cut_record o _ c.args.puts.now host _ told tells refl p.kept (grown (history_of o Spool) mid _ (p.done.are_put.made told)) c.deref.result.now
          (c.in-Ok.ensures.puts.due told) short
          (λ images named stands leaves. told_after told o host tells p images named stands (spool_image told o host tells p (images Spool) leaves)));
    }

pub returns-in-Ok-append_to-clause-keeps : goal.returns-in-Ok-append_to-clause-keeps
returns-in-Ok-append_to-clause-keeps g c =
    let k = (goal.at.returns-in-Ok-append_to-clause-keeps g c).After-append_to in
    let o = c.args.self.now in
    let host = content c.args.state.now in
    let done = c.in-Ok-append_to.ensures.appends.done in
    let freed = c.free_gone.ensures in
    record {
      stands = c.in-Ok.ensures.done.stands;
      shape = shape_of g k;
      filled = λ told tells.
          subst (λ d. map_change (extent_bytes (content_of (g.D.Disk.history d))) c.put_bytes.new.change ≡ filled c.args.change.now c.args.puts.now)
          (sym freed.same)
          (filled_now told o host tells (put_of g k told tells));
      kept = λ told tells.
          subst (λ d. map_state (extent_bytes (content_of (g.D.Disk.history d))) host ≡ plain_of o host) (sym freed.same)
          (plain_kept told o host tells (content_of (spool.history_of c.put_bytes.new.spool)) (put_of g k told tells).still);
      told = λ told tells.
          let p = put_of g k told tells in
          let acc = account told o host tells p in
          tells_later o _ host (applied c.put_bytes.new.change host) tells c.deref.result.now refl c.append_to.ensures.rest refl
          (done.acknowledged told (front_of tells.form tells.snapshot) tells.payloads tells.journal) done.counted done.stays (records_now told o host tells p)
          (spool_tells told o host tells p c.free_gone.new.spool (freed.tells acc.more acc.fewer (put_tells told o host tells p) acc.takes));
      active = search rules;
      plain = λ told tells.
          let later = applied (filled c.args.change.now c.args.puts.now) (plain_of o host) in
          subst (λ d. map_state (extent_bytes (content_of (g.D.Disk.history d))) (applied c.put_bytes.new.change host) ≡ later) (sym freed.same)
          (plain_now told o host tells (put_of g k told tells));
    }

pub returns-in-Ok-append_to-clause-calls : goal.returns-in-Ok-append_to-clause-calls
returns-in-Ok-append_to-clause-calls g c =
    let k = (goal.at.returns-in-Ok-append_to-clause-calls g c).After-append_to in
    let o = c.args.self.now in
    record {
      made = λ told.
          all_done o _ c.args.puts.now (content c.args.state.now) _ told c.args.change.now c.put_bytes.new.change c.deref.result.now c.put_bytes.new.spool
          (done_of g k) (put_of g k told) (many_of g k) refl c.append_to.ensures.rest (ap g.D.Disk.history c.free_gone.ensures.same) refl
          c.in-Ok-append_to.ensures.appends.done;
      spool = λ told. c.in-Ok.ensures.puts.due told;
      journal = λ told. record_clear o (c.in-Ok-append_to.ensures.appends.done.clear told);
      broken_off = λ told. tt;
      cut = λ told tells which is. absurd (let no : ⊥ = cc in no);
    }

pub returns-in-Ok-append_to-clause-spelled : goal.returns-in-Ok-append_to-clause-spelled
returns-in-Ok-append_to-clause-spelled g c =
    let k = (goal.at.returns-in-Ok-append_to-clause-spelled g c).After-append_to in
    let o = c.args.self.now in
    λ told tells.
    all_spelled o _ c.args.puts.now (content c.args.state.now)
    (applied (filled c.args.change.now c.args.puts.now) (plain_of o (content c.args.state.now))) told c.args.change.now c.put_bytes.new.change
    c.deref.result.now c.put_bytes.new.spool (done_of g k) (put_of g k told) (many_of g k) refl c.append_to.ensures.rest
    (ap g.D.Disk.history c.free_gone.ensures.same) c.in-Ok-append_to.ensures.appends.done tells

pub returns-in-Err-clause-unread : goal.returns-in-Err-clause-unread
returns-in-Err-clause-unread g c =
    none_by c.args.self.now _ c.args.self.now.on_second (λ yes. refl) (λ yes. refl) (λ yes. refl) c.put_bytes.ensures.puts.unread

pub returns-in-Err-append_to-clause-unread : goal.returns-in-Err-append_to-clause-unread
returns-in-Err-append_to-clause-unread g c =
    none_by c.args.self.now _ c.args.self.now.on_second (λ yes. refl) c.append_to.ensures.appends.unread
    (λ yes. ap (λ j. g.D.Disk.reads (journal.disk_of j)) c.append_to.ensures.rest) c.put_bytes.ensures.puts.unread

pub returns-in-Ok-append_to-clause-unread : goal.returns-in-Ok-append_to-clause-unread
returns-in-Ok-append_to-clause-unread g c =
    none_by c.args.self.now _ c.args.self.now.on_second (λ yes. refl) c.append_to.ensures.appends.unread
    (λ yes. ap (λ j. g.D.Disk.reads (journal.disk_of j)) c.append_to.ensures.rest)
    (λ yes. ap g.D.Disk.reads c.free_gone.ensures.same ∙ c.put_bytes.ensures.puts.unread yes)
