-- The extents of a job's outputs.
use Rattle.std.proofs.Common.{◌≡◌, ℕ, zero, suc, ◌+◌, ◌-◌, Bool, true, false, cond, nat_lt, List, [], ◌∷◌, ◌++◌, map, take, drop, take-append-drop, Option}
use Rattle.std.proofs.Common.{None, Some, refl, sym, ap, subst, ◌∙◌, append_assoc}
use Rattle.std.proofs.lemmas.List.{append-nil, map-append}
use Rattle.nqs_base.specs.declared.extent.Extent.{Extent}
use Rattle.nqs_base.proofs.Plain.{one_left, none_left}
use Rattle.nqs_types.specs.declared.ids.RequestId.{RequestId}
use Rattle.nqs_types.specs.declared.request.Peer.{Peer}
use Rattle.nqs_types.specs.declared.change.OutPart.{OutPart}
use Rattle.nqs_rules.specs.Tests.{same_host, last_u64}
use Rattle.nqs_rules.specs.Find.{find_peer}
use Rattle.nqs_rules.specs.Edits.{change_peer}
use Rattle.nqs_rules.specs.Stepped.{part_bytes}
use Rattle.nqs_rules.specs.Applied.{add_file, add_stage, add_stage_to, add_outputs, stage_counted}
use Rattle.nqs_rules.proofs.OutputsOrder.{get-changed}
use Rattle.nqs_store.specs.Told.{Host}
use Rattle.nqs_store.specs.Live.{row_part, promise_part, stage_part, file_part, output_parts}
use Rattle.nqs_store.specs.Accounts.{Adds, Takes}
use Rattle.nqs_store.specs.Frees.{numbers_left, stages_left}
use Rattle.nqs_store.proofs.Extents.{adds-before, adds-behind, adds-end, takes-before, takes-behind, takes-end}

-- one more where there is a number, and none else
taken_next : (n : ℕ) (x : Extent) (xs front : List Extent) → nat_lt n last_u64 ≡ true
    → (front ++ x ∷ []) ++ take (last_u64 - (n + 1)) xs ≡ front ++ take (last_u64 - n) (x ∷ xs)
taken_next n x xs front lt = append_assoc front (x ∷ []) (take (last_u64 - (n + 1)) xs) ∙ ap (λ m. front ++ take m (x ∷ xs)) (sym (one_left last_u64 n lt))

taken_none : (n : ℕ) (x : Extent) (xs front : List Extent) → nat_lt n last_u64 ≡ false → front ++ take (last_u64 - n) xs ≡ front ++ take (last_u64 - n) (x ∷ xs)
taken_none n x xs front past = ap (λ m. front ++ take m xs) (none_left last_u64 n past) ∙ sym (ap (λ m. front ++ take m (x ∷ xs)) (none_left last_u64 n past))

module _ (id : RequestId) where
  -- what outputs leave, whose extents go behind those of files
  pub record AreFiled (s now : Host) (added : List Extent) : Type 0 where
    pub rows : map row_part now.rows ≡ map row_part s.rows
    pub promises : map promise_part now.promises ≡ map promise_part s.promises
    pub stages : map stage_part now.stages ≡ map stage_part s.stages
    pub files : map file_part now.files ≡ map file_part s.files ++ added

  -- and of stages
  pub record AreStaged (s now : Host) (added : List Extent) : Type 0 where
    pub rows : map row_part now.rows ≡ map row_part s.rows
    pub promises : map promise_part now.promises ≡ map promise_part s.promises
    pub stages : map stage_part now.stages ≡ map stage_part s.stages ++ added
    pub files : map file_part now.files ≡ map file_part s.files

  filed : (parts : List (OutPart Extent)) (s : Host) → same_host s.me id.host ≡ true
      → AreFiled s (add_outputs id parts s) (take (last_u64 - s.file_next) (map part_bytes parts))
  filed [] s here = record {
    rows = refl;
    promises = refl;
    stages = refl;
    files =
        sym (ap (λ l. map file_part s.files ++ l) (nothing (last_u64 - s.file_next)) ∙ append-nil (map file_part s.files));
  }
    where
      nothing : (n : ℕ) → take {A = Extent} n [] ≡ []
      nothing zero = refl
      nothing (suc n) = refl
  filed (part ∷ parts) s here = subst (λ t. AreFiled s (add_outputs id parts t) (take (last_u64 - s.file_next) (part.bytes ∷ map part_bytes parts)))
      (sym (ap (λ b. cond b (add_file part s) (add_stage id.host part s)) here))
      (by (nat_lt s.file_next last_u64) refl (filed parts (record s {
        files =
            s.files ++ record { number = s.file_next; path = part.path; bytes = part.bytes } ∷ [];
        file_next = s.file_next + 1;
      }) here) (filed parts s here))
    where
      next : Host
      next = record s { files = s.files ++ record { number = s.file_next; path = part.path; bytes = part.bytes } ∷ []; file_next = s.file_next + 1 }

      by : (b : Bool) → nat_lt s.file_next last_u64 ≡ b → AreFiled next (add_outputs id parts next) (take (last_u64 - (s.file_next + 1)) (map part_bytes parts))
          → AreFiled s (add_outputs id parts s) (take (last_u64 - s.file_next) (map part_bytes parts))
          → AreFiled s (add_outputs id parts (cond b next s)) (take (last_u64 - s.file_next) (part.bytes ∷ map part_bytes parts))
      by true lt r rest = record {
        rows = r.rows;
        promises = r.promises;
        stages = r.stages;
        files = r.files ∙ ap (λ l. l ++ take (last_u64 - (s.file_next + 1)) (map part_bytes parts))
            (map-append file_part s.files (record { number = s.file_next; path = part.path; bytes = part.bytes } ∷ []))
            ∙ taken_next s.file_next part.bytes (map part_bytes parts) (map file_part s.files) lt;
      }
      by false past rest r = record {
        rows = r.rows;
        promises = r.promises;
        stages = r.stages;
        files = r.files
            ∙ taken_none s.file_next part.bytes (map part_bytes parts) (map file_part s.files) past;
      }

  abbrev staged_next : Host → OutPart Extent → Peer → Host
  staged_next s part p = record (change_peer id.host stage_counted s) {
    stages =
        s.stages ++ record { peer = id.host; number = p.stage_next; path = part.path; bytes = part.bytes } ∷ [];
  }

  staged : (parts : List (OutPart Extent)) (s : Host) (o : Option Peer) → same_host s.me id.host ≡ false → find_peer id.host s ≡ o
      → AreStaged s (add_outputs id parts s) (take (stages_left o) (map part_bytes parts))
  staged [] s o away found = record {
    rows = refl;
    promises = refl;
    stages =
        sym (ap (λ l. map stage_part s.stages ++ l) (nothing (stages_left o)) ∙ append-nil (map stage_part s.stages));
    files = refl;
  }
    where
      nothing : (n : ℕ) → take {A = Extent} n [] ≡ []
      nothing zero = refl
      nothing (suc n) = refl
  staged (part ∷ parts) s None away found =
      let r = staged parts s None away found in
      subst (λ t. AreStaged s (add_outputs id parts t) []) (sym (ap (λ b. cond b (add_file part s) (add_stage id.host part s)) away
      ∙ ap (λ q. add_stage_to id.host part q s) found)) r
  staged (part ∷ parts) s (Some p) away found =
      subst (λ t. AreStaged s (add_outputs id parts t) (take (last_u64 - p.stage_next) (part.bytes ∷ map part_bytes parts)))
      (sym (ap (λ b. cond b (add_file part s) (add_stage id.host part s)) away ∙ ap (λ q. add_stage_to id.host part q s) found))
      (by (nat_lt p.stage_next last_u64) refl (staged parts (staged_next s part p) (Some (stage_counted p)) away
      (get-changed id.host.0 stage_counted s.peers ∙ ap (λ q. Rattle.std.specs.Option.option_map stage_counted q) found))
      (staged parts s (Some p) away found))
    where
      next : Host
      next = staged_next s part p

      by : (b : Bool) → nat_lt p.stage_next last_u64 ≡ b → AreStaged next (add_outputs id parts next)
          (take (last_u64 - (p.stage_next + 1)) (map part_bytes parts)) → AreStaged s (add_outputs id parts s)
          (take (last_u64 - p.stage_next) (map part_bytes parts))
          → AreStaged s (add_outputs id parts (cond b next s)) (take (last_u64 - p.stage_next) (part.bytes ∷ map part_bytes parts))
      by true lt r rest = record {
        rows = r.rows;
        promises = r.promises;
        stages = r.stages ∙ ap (λ l. l ++ take (last_u64 - (p.stage_next + 1)) (map part_bytes parts))
            (map-append stage_part s.stages (record { peer = id.host; number = p.stage_next; path = part.path; bytes = part.bytes } ∷ []))
            ∙ taken_next p.stage_next part.bytes (map part_bytes parts) (map stage_part s.stages) lt;
        files = r.files;
      }
      by false past rest r = record {
        rows = r.rows;
        promises = r.promises;
        stages = r.stages
            ∙ taken_none p.stage_next part.bytes (map part_bytes parts) (map stage_part s.stages) past;
        files = r.files;
      }

  -- The extents of outputs are put in, and those without a number taken out again.
  pub record AreOutput (parts : List (OutPart Extent)) (s : Host) : Type 0 where
    pub rows : map row_part (add_outputs id parts s).rows ≡ map row_part s.rows
    pub promises : map promise_part (add_outputs id parts s).promises ≡ map promise_part s.promises
    pub more : List Extent
    pub adds : Adds (output_parts s) (map part_bytes parts) more
    pub takes : Takes more (drop (numbers_left id.host s) (map part_bytes parts)) (output_parts (add_outputs id parts s))

  pub outputs : (parts : List (OutPart Extent)) (s : Host) → AreOutput parts s
  outputs parts s = by (same_host s.me id.host) refl
    where
      xs : List Extent
      xs = map part_bytes parts

      stages : List Extent
      stages = map stage_part s.stages

      files : List Extent
      files = map file_part s.files

      -- behind what a list has, those with a number stay
      some : (front : List Extent) (n : ℕ) → Takes (front ++ xs) (drop n xs) (front ++ take n xs)
      some front n = subst (λ l. Takes l (drop n xs) (front ++ take n xs))
          (append_assoc front (take n xs) (drop n xs) ∙ ap (λ l. front ++ l) (take-append-drop n xs)) (takes-end (front ++ take n xs) (drop n xs))

      by : (b : Bool) → same_host s.me id.host ≡ b → AreOutput parts s
      by true here =
          let r = filed parts s here in
          let n = last_u64 - s.file_next in
          record {
            rows = r.rows;
            promises = r.promises;
            more = stages ++ (files ++ xs);
            adds = adds-before stages files xs (files ++ xs) (adds-end files xs);
            takes = subst (λ m. Takes (stages ++ (files ++ xs)) (drop m xs) (output_parts (add_outputs id parts s)))
                (sym (ap (λ b. cond b n (stages_left (find_peer id.host s))) here))
                (subst (Takes (stages ++ (files ++ xs)) (drop n xs)) (sym (λ j. r.stages j ++ r.files j))
                (takes-before stages (files ++ xs) (drop n xs) (files ++ take n xs) (some files n)));
          }
      by false away =
          let r = staged parts s (find_peer id.host s) away refl in
          let n = stages_left (find_peer id.host s) in
          record {
            rows = r.rows;
            promises = r.promises;
            more = (stages ++ xs) ++ files;
            adds = adds-behind stages xs (stages ++ xs) files (adds-end stages xs);
            takes = subst (λ m. Takes ((stages ++ xs) ++ files) (drop m xs) (output_parts (add_outputs id parts s)))
                (sym (ap (λ b. cond b (last_u64 - s.file_next) n) away))
                (subst (Takes ((stages ++ xs) ++ files) (drop n xs)) (sym (λ j. r.stages j ++ r.files j))
                (takes-behind (stages ++ xs) (drop n xs) (stages ++ take n xs) files (some stages n)));
          }
