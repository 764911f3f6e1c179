-- Each field of an edit is read as it is spelled.
use Rattle.std.proofs.Common.{◌≡◌, ℕ, ◌<◌, ◌^◌, Bool, true, false, ◌==◌, nat_le, is_some, IsTrue, [], ◌++◌, Option, Some, None, refl}
use Rattle.std.proofs.Common.{sym, ap, arith}
use Rattle.std.proofs.lemmas.Bool.{eqb-true}
use Rattle.std.proofs.lemmas.Bool.Decides.{nat_tests}
use Rattle.nqs_base.specs.Name.{IsName}
use Rattle.nqs_rules.specs.Conf.{is_wait}
use Rattle.nqs_codec.specs.Fields.{u64_field, short_field}
use Rattle.nqs_records.specs.Fields.{name_at}
use Rattle.nqs_records.specs.Spelling.{opt_field, one_if, flag_field, dest_field, named_field}
use Rattle.nqs_records.specs.Values.{is_at_most, IsAny, IsOpt, IsAtMost, IsDest, IsNamed}
use Rattle.nqs_records.specs.Parts.{at_most_at, wait_at, flag_at, dest_at, named_at}
use Rattle.nqs_records.specs.EditFields.{eight_bytes, at_most as up_to, a_wait, a_flag, a_name, maybe, a_dest, a_named, IsValue, value_field, value_at}
use Rattle.nqs_records.specs.EditFields.{is_sound}
use Rattle.nqs_records.proofs.IsRead.{IsRead}
use Rattle.nqs_records.proofs.Numbers.{u64_read}
use Rattle.nqs_records.proofs.Named.{name_read}
use Rattle.nqs_records.proofs.Chains.{both_read, mapped_where, mapped_read, within_read, last_read, opt_read}
use Rattle.nqs_records.proofs.PartLaws.{seq_law}
use Rattle.nqs_records.proofs.ShapeLaws.{FieldsAreRead}

limit_fits : (limit n : ℕ) → nat_le limit 10000 ≡ true → IsTrue (is_at_most limit n) → n < 2 ^ 64
limit_fits limit n small is = grind (arith, nat_tests)

wait_fits : (n : ℕ) → IsTrue (is_wait n) → n < 2 ^ 64
wait_fits n is = grind (arith, nat_tests)

at_most : (limit : ℕ) → nat_le limit 10000 ≡ true → IsRead (IsAtMost limit) u64_field (at_most_at limit)
unfolding at_most_at
at_most limit small = within_read (is_at_most limit) (λ n is. limit_fits limit n small is) u64_read

wait : IsRead (λ n. IsTrue (is_wait n)) u64_field wait_at
unfolding wait_at
wait = within_read is_wait wait_fits u64_read

-- ---- a flag

abbrev IsOne : ℕ → Type 0
IsOne n = IsTrue (n == 1)

one_fits : (n : ℕ) → IsOne n → n < 2 ^ 64
one_fits n is = grind (arith, nat_tests)

is_some_one : (is_set : Bool) → is_some (one_if is_set) ≡ is_set
is_some_one true = refl
is_some_one false = refl

one_is_one : (is_set : Bool) → IsOpt IsOne (one_if is_set)
one_is_one true = refl
one_is_one false = tt

one_again : (n : Option ℕ) → IsOpt IsOne n → one_if (is_some n) ≡ n
one_again None is = refl
one_again (Some n) is = ap (λ (m : ℕ). Some m) (sym (eqb-true n 1 is))

flag : IsRead IsAny flag_field flag_at
unfolding flag_at flag_field
flag =
    mapped_where IsAny flag_field (λ n. is_some n) one_if is_some_one (λ n is. tt) (λ is_set any. one_is_one is_set)
    (λ n is. ap (opt_field u64_field) (one_again n is))
    (opt_read (within_read (λ n. n == 1) one_fits u64_read))

-- ---- names

one_name : IsRead IsName (λ name. short_field name ++ []) name_at
one_name = last_read name_read

dest : IsRead IsDest dest_field dest_at
unfolding dest_at dest_field
dest = mapped_read IsDest dest_field (λ v. record { queue = v.0; host = v.1 }) (λ d. (d.queue, d.host)) (λ d. refl) (λ v is. is) (λ d is. is)
    (λ v. refl) (both_read name_read (λ _ _. one_name))

named_law : IsRead IsNamed named_field named_at
unfolding named_at named_field
named_law =
    mapped_read IsNamed named_field (λ v. record { seq = v.0; host = v.1 }) (λ n. (n.seq, n.host)) (λ n. refl) (λ v is. is) (λ n is. is) (λ v. refl)
    (both_read seq_law (λ _ _. one_name))

pub named : IsRead IsNamed (λ n. named_field n ++ []) named_at
named = last_read named_law

pub edit_fields_are_read : FieldsAreRead IsValue value_field value_at is_sound
edit_fields_are_read eight_bytes sound = u64_read
edit_fields_are_read (up_to limit) sound = at_most limit sound
edit_fields_are_read a_wait sound = wait
edit_fields_are_read a_flag sound = flag
edit_fields_are_read a_name sound = name_read
edit_fields_are_read (maybe f) sound = opt_read (edit_fields_are_read f sound)
edit_fields_are_read a_dest sound = dest
edit_fields_are_read a_named sound = named_law
