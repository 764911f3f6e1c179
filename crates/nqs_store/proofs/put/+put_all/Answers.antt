use Rattle.std.proofs.Common.{rules, ◌≡◌, ◌∷◌, [], ◌++◌, length, refl, sym, ap, subst, ◌∙◌, arith, inr, Err}
use Rattle.std.proofs.Common.{◌<◌, IsTrue, length-append}
use Rattle.std.specs.List.{AllByRecursion}
use Rattle.nqs_store.specs.Puts.{IsShortPut}
use Rattle.std.specs.Bool.{if◌then◌else◌}
use Rattle.std.specs.Result.{is_ok}
use Rattle.std.proofs.lemmas.Result.{on_ok_weaker, on_err_weaker}
use Rattle.nqs_base.specs.declared.extent.Extent.{Extent}
use Rattle.nqs_outside.specs.History.{moment, extended}
use Rattle.nqs_records.specs.Values.{IsScript}
use Rattle.nqs_spool.specs.Puts.{put_calls}
use Rattle.nqs_spool.specs.Spooled.{disk_of, history_of, place_for}
use Rattle.nqs_store.proofs.Extents.{with_first}
use Rattle.nqs_outside.proofs.Histories.{goes_on}
use Rattle.nqs_outside.proofs.Roses.{rose_since}
use Rattle.nqs_store.proofs.Putting.{held_idle, none_put, first_broken, later_broken, more_put, kept_on}
use Rattle.nqs_store.proofs.Runs.{none_clear, all_clear, later_fails, first_fails, failing, is_disk, one_clear}
use Rattle.nqs_store.proofs.put.+put_all.Goals as goal

pub returns-in_default : goal.returns-in_default
returns-in_default g t c = record {
  puts = record {
    fault = tt;
    later = search rules;
    broken = λ told. tt;
    due = λ told. none_clear (g.D.Disk.fails (disk_of c.args.spool.now)) (moment (history_of c.args.spool.now)) c.args.puts.now c.in_default.ensures.cases;
    failing = λ told. tt;
    fuse = λ told i. refl;
    unread = λ told. refl;
    kept = λ told live tells x script has holds. held_idle (history_of c.args.spool.now) x script (tells.quiet told) holds;
    still = λ told live tells x script has holds. holds;
  };
  grown = search rules;
  done = none_put c.args.spool.now c.args.puts.now c.args.extents.now.items c.in_default.ensures.cases;
}

pub returns-in-Err : goal.returns-in-Err
returns-in-Err g t c =
    let old = c.args.spool.now in
    let put = c.as_slice.result.now in
    let later = c.in-Some.later.now in
    let e = c.in-Err.ensures in
    let size = c.in-Some.ensures.cases.1 in
    let is : c.args.puts.now ≡ put ∷ later = c.in-Some.ensures.cases.0 ∙ ap (λ l. l ∷ later) (sym c.as_slice.ensures) in
    let short = (subst (AllByRecursion IsShortPut) is c.requires.short).0 in
    let fault = is_disk c.in-Err.field-0 (λ is. absurd (omega (arith, short, e.too_long.0 (ap Err is))))
    (λ is. absurd (omega (arith, c.requires.room, size, e.memory (ap Err is)))) in
    record {
      puts = record {
        fault = e.disk (ap Err fault);
        later = e.later;
        broken = λ told. (let b = e.broken told (ap Err fault) in
            first_broken (history_of old) (history_of c.put.new.self) _ put later is (place_for old put, b.0, b.1, b.2));
        due = λ told. tt;
        failing = λ told.
            let b = e.broken told (ap Err fault) in
            let one = failing _ _ _ (history_of old) (history_of c.put.new.self) (place_for old put) put b.0 b.1 b.2
            (e.exact told short (λ is. absurd (omega (arith, c.requires.room, size, e.memory is)))) in
            rw is (first_fails (g.D.Disk.fails (disk_of old)) (moment (history_of old)) put later (g.D.Disk.starved (disk_of c.put.new.self)) one);
        fuse = e.fuse;
        unread = e.unread;
        kept = e.kept;
        still = e.still;
      };
      grown = search rules;
      done = tt;
    }

pub put_all-requires : goal.put_all-requires
put_all-requires g t c = λ κs within.
    let is = c.in-Some.ensures.cases in
    let was : length c.args.puts.now ≡ t = c.decreases in
    let less : length c.in-Some.later.now < t = omega (arith, is.1, was) in
    let pushed = c.push.ensures.items ∙ ap (λ r. if is_ok r then c.args.extents.now.items ++ c.in-Ok.extent ∷ [] else
    c.args.extents.now.items) c.unwrap.ensures in (
      less,
      (
        within,
        record {
          room = omega (arith, c.requires.room, is.1, c.put.ensures.room);
          list = omega (
            arith,
            c.requires.list,
            is.1,
            ap length pushed,
            length-append c.args.extents.now.items
                (c.in-Ok.extent ∷ []),
            c.push.ensures.capacity,
          );
          short = (subst (AllByRecursion IsShortPut) is.0 c.requires.short).1;
        },
      ),
    )

pub returns-in-Ok : goal.returns-in-Ok
returns-in-Ok g t c =
    let old = c.args.spool.now in
    let mid = c.put.new.self in
    let put = c.as_slice.result.now in
    let later = c.in-Some.later.now in
    let x = c.in-Ok.extent in
    let e = c.in-Ok.ensures in
    let l = c.put_all.ensures.puts in
    let is : c.args.puts.now ≡ put ∷ later = c.in-Some.ensures.cases.0 ∙ ap (λ l. l ∷ later) (sym c.as_slice.ensures) in
    let made : IsTrue g.D.Disk.tells → history_of mid ≡ extended (history_of old) (put_calls x.place put) =
    (λ told. e.made told ∙ ap (λ (x : Extent). extended (history_of old) (put_calls x.place put)) (sym e.extent)) in
    let clear = λ (told : IsTrue g.D.Disk.tells). one_clear (g.D.Disk.fails (disk_of old)) (moment (history_of old)) put (e.due told) in
    let small : IsScript x = search rules in
    let pushed = c.push.ensures.items ∙ ap (λ r. if is_ok r then c.args.extents.now.items ++ x ∷ [] else c.args.extents.now.items) c.unwrap.ensures in
    record {
      puts = record {
        fault = on_err_weaker c.put_all.result (λ rose. rose_since _ _ _ e.later rose) l.fault;
        later = omega (arith, e.later, l.later);
        broken = λ told. on_err_weaker c.put_all.result
            (later_broken (history_of old) (history_of mid) (history_of c.put_all.new.spool) _ _ _ x.place is (made told)) (l.broken told);
        due = λ told. on_ok_weaker c.put_all.result (λ rest. rw is (all_clear (history_of old) (history_of mid) (g.D.Disk.fails (disk_of old))
            (g.D.Disk.fails (disk_of mid)) x.place put later (made told) (e.fuse told) (clear told) rest)) (l.due told);
        failing = λ told. on_err_weaker c.put_all.result (λ rest. rw is (later_fails (history_of old) (history_of mid) (g.D.Disk.fails (disk_of old))
            (g.D.Disk.fails (disk_of mid)) x.place put later (made told) (e.fuse told) (clear told) (g.D.Disk.starved (disk_of c.put_all.new.spool)) rest))
            (l.failing told);
        fuse = λ told i. l.fuse told i ∙ e.fuse told i;
        unread = λ told. l.unread told ∙ e.unread told;
        kept = λ told live tells y script has holds.
            kept_on old mid c.put_all.new.spool x _ e.tells e.stored live y script _ tells has (c.put_all.ensures.grown told).1
            (e.kept told live tells y script has holds) (e.still told live tells y script has holds)
            (λ more tells' has' holds'. l.kept told more tells' y script has' holds');
        still = λ told live tells y script has holds.
            l.still told (x ∷ live) (e.tells live (x ∷ live) tells (with_first x live)) y script (inr has) (e.still told live tells y script has holds);
      };
      grown = λ told. (
        put_calls x.place put ++ (c.put_all.ensures.grown told).0,
        goes_on (history_of old) (history_of mid) (history_of c.put_all.new.spool) _ _
            (made told) (c.put_all.ensures.grown told).1,
      );
      done = on_ok_weaker c.put_all.result (more_put old mid c.put_all.new.spool x put e.tells e.stored c.args.puts.now later c.args.extents.now.items _ _ is
          pushed small (ap (λ (y : Extent). y.length) e.extent) made c.put_all.ensures.puts.still) c.put_all.ensures.done;
    }
