-- A number field is what is written of its number.
use Rattle.std.proofs.Common.{◌≡◌, ℕ, ◌^◌, ◌<◌, ◌≤◌, Bool, true, false, cond, ◌&&◌, leb, List, [], ◌∷◌, length, get_or, Some, None, decimal, Option, sym, refl, ap, ◌∙◌, inl, inr, arith, rules}
use Rattle.std.specs.Char.{is_ascii_digit}
use Rattle.std.specs.Str.{all_ascii_digits}
use Rattle.std.proofs.lemmas.Fmt.{decimal-digits_value, decimal_nonempty, decimal_digit, length-decimal-le, first_decimal, digits_decimal, digits_value-decimal}
use Rattle.std.proofs.lemmas.Str.Parse.{IsNumeralModel, numerals_by_fold, tells_all_ascii_digits}
use Rattle.std.proofs.lemmas.Bool.{and_parts, and_from, leb-true, le-leb, cond-true, cases_eq, cases_lt}
use Rattle.std.proofs.lemmas.Bool.Decides.{nat_tests}
use Rattle.reader.specs.Numbers.{value_from, value_within, shaped, number_in}
use Rattle.reader.proofs.Marks.{Lacks}

own : IsNumeralModel (λ ds. all_ascii_digits ds ≡ true) (value_from 0)
own = numerals_by_fold (λ ds. all_ascii_digits ds ≡ true) tells_all_ascii_digits value_from (search rules)

given : (b : Bool) (x : Option ℕ) (n : ℕ) → cond b x None ≡ Some n → (b ≡ true) × (x ≡ Some n)
given true x n e = (refl, e)
given false x n e = let z : ◌≡◌ {A = ℕ} 0 1 = cc in absurd (omega arith)

lengths : (ds : List ℕ) → shaped ds ≡ true → (0 < length ds) × (length ds ≤ 5) × (get_or ds 0 0 ≡ 48 → length ds ≡ 1)
lengths ds e = (grind (arith, nat_tests), grind (arith, nat_tests), λ z. grind (arith, nat_tests))

pub number_is : (field : List ℕ) (n : ℕ) → number_in field ≡ Some n → (field ≡ decimal n) × (n ≤ 65535)
number_is ds n e =
    let s = given (shaped ds) (value_within 0 ds) n e in
    let v = given (all_ascii_digits ds && leb (value_from 0 ds) 65535) (Some (value_from 0 ds)) n s.1 in
    let a = and_parts (all_ascii_digits ds) (leb (value_from 0 ds) 65535) v.0 in
    let l = lengths ds s.0 in
    let small = leb-true (value_from 0 ds) 65535 a.1 in
    let is : value_from 0 ds ≡ n = cc v.1 in
    (sym (decimal-digits_value own ds a.0 l.0 l.2 (omega arith)) ∙ ap decimal is, omega arith)

is_shaped : (ds : List ℕ) → 0 < length ds → length ds ≤ 5 → (get_or ds 0 0 ≡ 48 → length ds ≡ 1) → shaped ds ≡ true
is_shaped ds s l z = elim (cases_eq (get_or ds 0 0) 48) [ inl e ↦ (let one = z e in grind (arith, nat_tests)) | inr e ↦ grind (arith, nat_tests) ]

is_number : (ds : List ℕ) (n : ℕ) → shaped ds ≡ true → all_ascii_digits ds ≡ true → value_from 0 ds ≡ n → n ≤ 65535 → number_in ds ≡ Some n
is_number ds n s a v h =
    cond-true _ _ _ s ∙ cond-true _ _ _ (and_from (all_ascii_digits ds) (leb (value_from 0 ds) 65535) a (le-leb _ _ (omega arith))) ∙ ap Some v

one_zero : (n : ℕ) → n ≤ 65535 → get_or (decimal n) 0 0 ≡ 48 → length (decimal n) ≡ 1
one_zero n h z = elim (cases_lt 0 n) [ inl l ↦ absurd (omega (arith, first_decimal n l (omega arith))) | inr l ↦ ap length (decimal_digit n (omega arith)) ]

pub decimal_number : (n : ℕ) → n ≤ 65535 → number_in (decimal n) ≡ Some n
decimal_number n h =
    is_number (decimal n) n
    (is_shaped (decimal n) (decimal_nonempty n (omega arith)) (length-decimal-le 5 n (omega arith) (omega arith) (omega arith)) (one_zero n h))
    (digits_decimal own n (omega arith)) (digits_value-decimal own n (omega arith)) h

pub digits_lack : (mark : ℕ) → mark < 48 → (ds : List ℕ) → all_ascii_digits ds ≡ true → Lacks mark ds
digits_lack mark h [] e = tt
digits_lack mark h (d ∷ ds) e =
    let p = and_parts (is_ascii_digit d) (all_ascii_digits ds) e in
    (λ z. grind (arith, nat_tests), digits_lack mark h ds p.1)

pub decimal_lacks : (mark n : ℕ) → mark < 48 → n < 2 ^ 64 → Lacks mark (decimal n)
decimal_lacks mark n h l = digits_lack mark h (decimal n) (digits_decimal own n l)
