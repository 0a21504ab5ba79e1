-- Laws of reading a line.
use Rattle.std.specs.Prelude.{◌≡◌, List, [], ◌∷◌, Bool, ◌&&◌, ℕ, ◌+◌, ◌-◌, ◌≤◌, ◌<◌, get_or, ltb, Option, Some, None}
use Rattle.std.proofs.Math.Path.{refl, sym}
use Rattle.std.proofs.Common.{ap, subst, ◌∙◌}
use Rattle.std.proofs.Math.Bool.{true, false, not}
use Rattle.std.proofs.Math.Option.{none, some}
use native.Mathlib.Omega.{arith}
use Rattle.std.proofs.Math.ListN.{length, drop, drop_of_length-le}
use Rattle.std.proofs.Math.Dec.{eqb, leb}
use borrow.Author.Tests.{leb-true, ltb-true, leb-false, ltb-false, eqb-true, eqb-false, eq-eqb, ne_eqb, not-true}
use Rattle.spec_trees.specs.Options.{◌>>=◌, only}
use Rattle.spec_trees.specs.OptionLaws.{both_true, split, apart, leb_yes, leb_no}
use Rattle.spec_tracer.specs.Limits.{name_max, value_max}
use Rattle.spec_tracer.specs.Message.{equals, semicolon, carriage_return, line_feed, is_capital, is_name_byte, is_value_byte, begins, front}
use Rattle.spec_tracer.specs.Reading.{expect, name, value, second, values, line}
use Rattle.spec_tracer.specs.LineLaws.{value_read, value_long, name_read, name_small, name_long}
use Rattle.tracer_lines.specs.declared.line.Line.{Line}
use Rattle.tracer_lines.specs.Piece.{part, piece_end, stands_at}
use Rattle.tracer_lines.specs.Label.{NameAt}
use Rattle.tracer_lines.specs.Line.{is_name_at, ValuesAt, ValuesEnd, LineAt, LineRead}
use Rattle.tracer_lines.specs.PieceLaws.{here, piece_above, piece_inside, piece_length, piece_front, piece_behind, piece_all, part_first}

-- ---- a byte that must stand there
expect_other : (x : ℕ) (l : List ℕ) → begins (λ b. eqb b x) l ≡ false → expect x l ≡ none
unfolding expect begins only
expect_other x [] q = refl
expect_other x (b ∷ l) q = rw q refl

module _ (m : List ℕ) (at x : ℕ) where
  pub stands_inside : stands_at m at x ≡ true → at < length m
  unfolding stands_at begins
  stands_inside e = split (ltb at (length m)) (λ h. ltb-true at (length m) h)
      (λ h. let z = drop_of_length-le m {i = at} (ltb-false at (length m) h) in apart e (ap (begins (λ b. eqb b x)) z))

  pub stands_byte : stands_at m at x ≡ true → eqb (get_or m at 0) x ≡ true
  unfolding stands_at begins
  stands_byte e = sym (ap (begins (λ b. eqb b x)) (here m at (stands_inside e))) ∙ e

  pub expect_here : stands_at m at x ≡ true → expect x (drop at m) ≡ some (drop (at + 1) m)
  unfolding expect only
  expect_here e = rw (here m at (stands_inside e), stands_byte e) refl

  pub expect_missing : stands_at m at x ≡ false → expect x (drop at m) ≡ none
  unfolding stands_at
  expect_missing e = expect_other x (drop at m) e

-- ---- one value, from a place on
module _ (m : List ℕ) (from : ℕ) {to : ℕ} (b : from ≤ length m) (z : to ≡ piece_end is_value_byte m from) where
  pub value_at : to - from ≤ value_max → value (drop from m) ≡ some (part from to m, drop to m)
  value_at h =
      let l : length (front is_value_byte (drop from m)) ≤ value_max = omega (arith, piece_length is_value_byte m from b z, h) in
      rw (← piece_front is_value_byte m from b z, ← piece_behind is_value_byte m from b z) (value_read (drop from m) l)

  pub value_over : value_max < to - from → value (drop from m) ≡ none
  value_over h = value_long (drop from m) (omega (arith, piece_length is_value_byte m from b z, h))

-- ---- one or two values

-- no semicolon: what is left is left
pub second_none : (v l : List ℕ) → begins (λ x. eqb x semicolon) l ≡ false → second v l ≡ some (v ∷ [], l)
unfolding second begins
second_none v [] q = refl
second_none v (x ∷ l) q = rw q refl

pub values_malformed : {m : List ℕ} {from : ℕ} → values (drop from m) ≡ none → ValuesEnd m from None
values_malformed h = record {
  at = λ e q. let z : ◌≡◌ {A = ℕ} 0 1 = cc in absurd (omega arith);
  malformed = λ q. h;
}

values_at : {m : List ℕ} {from e : ℕ} → ValuesAt m from e → ValuesEnd m from (Some e)
values_at {m} {from} {e} h = record {
  at = λ f q. let z : e ≡ f = cc in subst (ValuesAt m from) z h;
  malformed = λ q. let z : ◌≡◌ {A = ℕ} 0 1 = cc in absurd (omega arith);
}

module _ (m : List ℕ) (from : ℕ) {to : ℕ} (b : from ≤ length m) (z : to ≡ piece_end is_value_byte m from) where
  pub first_long : value_max < to - from → ValuesEnd m from None
  unfolding values ◌>>=◌
  first_long h = values_malformed (rw (value_over m from b z h) refl)

  module _ (h : to - from ≤ value_max) where
    values_second : values (drop from m) ≡ second (part from to m) (drop to m)
    unfolding values ◌>>=◌
    values_second = rw (value_at m from b z h) refl

    pub first_alone : stands_at m to semicolon ≡ false → ValuesEnd m from (Some to)
    unfolding stands_at
    first_alone e = values_at record {
      given = part from to m ∷ [];
      read = values_second ∙ second_none (part from to m) (drop to m) e;
      above = piece_above is_value_byte m from b z;
      inside = piece_inside is_value_byte m from b z;
    }

    module _ {last : ℕ} (e : stands_at m to semicolon ≡ true) (y : last ≡ piece_end is_value_byte m (to + 1)) where
      pub second_inside : to + 1 ≤ length m
      second_inside = omega (arith, stands_inside m to semicolon e)

      pub second_long : value_max < last - (to + 1) → ValuesEnd m from None
      unfolding second
      second_long l = values_malformed
          (values_second ∙ rw (here m to (stands_inside m to semicolon e), stands_byte m to semicolon e, value_over m (to + 1) second_inside y l) refl)

      pub second_at : last - (to + 1) ≤ value_max → ValuesEnd m from (Some last)
      unfolding second
      second_at l = values_at record {
        given = part from to m ∷ part (to + 1) last m ∷ [];
        read = values_second ∙ rw (here m to (stands_inside m to semicolon e), stands_byte m to semicolon e, value_at m (to + 1) second_inside y l) refl;
        above = omega (arith, piece_above is_value_byte m from b z, piece_above is_value_byte m (to + 1) second_inside y);
        inside = piece_inside is_value_byte m (to + 1) second_inside y;
      }

-- ---- the name, test by test
module _ (m : List ℕ) (from to : ℕ) where
  pub name_none : from ≡ to → false ≡ is_name_at m from to
  unfolding is_name_at
  name_none e = rw (eq-eqb from to e) refl

  pub name_over : name_max < to - from → false ≡ is_name_at m from to
  unfolding is_name_at
  name_over h = rw (ne_eqb from to (λ q. omega (arith, q, h)), leb_no (to - from) name_max h) refl

  pub name_begins : (from ≡ to → ⊥) → to - from ≤ name_max → is_capital (get_or m from 0) ≡ is_name_at m from to
  unfolding is_name_at
  name_begins n h = rw (ne_eqb from to n, leb_yes (to - from) name_max h) refl

-- ---- the name
module _ (m : List ℕ) (from : ℕ) {to : ℕ} (b : from ≤ length m) (z : to ≡ piece_end is_name_byte m from) where
  starts : (t : Bool) → from < to → is_capital (get_or m from 0) ≡ t → begins is_capital (front is_name_byte (drop from m)) ≡ t
  unfolding begins
  starts t l e = rw (piece_front is_name_byte m from b z, part_first m from to l (piece_inside is_name_byte m from b z)) e

  starts_none : (from < to → ⊥) → begins is_capital (front is_name_byte (drop from m)) ≡ false
  unfolding begins
  starts_none l =
      let y : to - from ≡ 0 = omega (arith, l) in
      rw (piece_front is_name_byte m from b z, y) refl

  apart_below : not (eqb from to) ≡ true → from < to
  apart_below e = let n = eqb-false from to (not-true (eqb from to) e) in omega (arith, n, piece_above is_name_byte m from b z)

  pub name_at : is_name_at m from to ≡ true → name (drop from m) ≡ some (part from to m, drop to m)
  unfolding is_name_at
  name_at e =
      let p = both_true (not (eqb from to) && leb (to - from) name_max) (is_capital (get_or m from 0)) e in
      let q = both_true (not (eqb from to)) (leb (to - from) name_max) p.0 in
      let l : length (front is_name_byte (drop from m)) ≤ name_max = omega (arith, piece_length is_name_byte m from b z, leb-true (to - from) name_max q.1) in
      rw (← piece_front is_name_byte m from b z, ← piece_behind is_name_byte m from b z)
      (name_read (drop from m) (starts true (apart_below q.0) p.1) l)

  pub name_bytes_at : is_name_at m from to ≡ true → NameAt m from to
  unfolding is_name_at
  name_bytes_at e =
      let p = both_true (not (eqb from to) && leb (to - from) name_max) (is_capital (get_or m from 0)) e in
      let q = both_true (not (eqb from to)) (leb (to - from) name_max) p.0 in
      record {
        above = piece_above is_name_byte m from b z;
        inside = piece_inside is_name_byte m from b z;
        short = leb-true (to - from) name_max q.1;
        bytes = piece_all is_name_byte m from b z;
      }

  pub name_missing : is_name_at m from to ≡ false → name (drop from m) ≡ none
  unfolding is_name_at
  name_missing e = split (eqb from to)
      (λ h. name_small (drop from m) (starts_none (λ l. omega (arith, l, eqb-true from to h))))
      (λ h. split (leb (to - from) name_max)
      (λ k. name_small (drop from m) (starts false (apart_below (ap not h)) (sym (rw (h, k) refl) ∙ e)))
      (λ k. name_long (drop from m) (omega (arith, piece_length is_name_byte m from b z, leb-false (to - from) name_max k))))

-- ---- the line
abbrev line_of : ℕ → ℕ → Line
line_of n next = record { name = n; next = next }

line_refused : {m : List ℕ} {from : ℕ} → line (drop from m) ≡ none → LineRead m from None
line_refused h = record {
  at = λ l q. let z : ◌≡◌ {A = ℕ} 0 1 = cc in absurd (omega arith);
  malformed = λ q. h;
}

line_read : {m : List ℕ} {from n next : ℕ} → LineAt m from n next → LineRead m from (Some (line_of n next))
line_read {m} {from} {n} {next} h = record {
  at = λ l q. let z : line_of n next ≡ l = cc in subst (λ i. LineAt m from i.name i.next) z h;
  malformed = λ q. let z : ◌≡◌ {A = ℕ} 0 1 = cc in absurd (omega arith);
}

module _ (m : List ℕ) (from : ℕ) {to : ℕ} (b : from ≤ length m) (z : to ≡ piece_end is_name_byte m from) where
  pub line_nameless : is_name_at m from to ≡ false → LineRead m from None
  unfolding line ◌>>=◌
  line_nameless e = line_refused (rw (name_missing m from b z e) refl)

  module _ (e : is_name_at m from to ≡ true) where
    pub line_unequal : stands_at m to equals ≡ false → LineRead m from None
    unfolding line ◌>>=◌
    line_unequal f = line_refused (rw (name_at m from b z e, expect_missing m to equals f) refl)

    module _ (f : stands_at m to equals ≡ true) where
      pub values_inside : to + 1 ≤ length m
      values_inside = omega (arith, stands_inside m to equals f)

      pub line_valueless : {r : Option ℕ} → ValuesEnd m (to + 1) r → r ≡ None → LineRead m from None
      unfolding line ◌>>=◌
      line_valueless v q = line_refused (rw (name_at m from b z e, expect_here m to equals f, v.malformed q) refl)

      module _ {last : ℕ} (v : ValuesAt m (to + 1) last) where
        pub line_unended : stands_at m last carriage_return ≡ false → LineRead m from None
        unfolding line ◌>>=◌
        line_unended g = line_refused (rw (name_at m from b z e, expect_here m to equals f, v.read, expect_missing m last carriage_return g) refl)

        pub line_half : stands_at m last carriage_return ≡ true → stands_at m (last + 1) line_feed ≡ false → LineRead m from None
        unfolding line ◌>>=◌
        line_half g h = line_refused
            (rw (name_at m from b z e, expect_here m to equals f, v.read, expect_here m last carriage_return g, expect_missing m (last + 1) line_feed h) refl)

        pub line_whole : stands_at m last carriage_return ≡ true → stands_at m (last + 1) line_feed ≡ true → LineRead m from (Some (line_of to (last + 2)))
        unfolding line ◌>>=◌
        line_whole g h =
            let y : last + 1 + 1 ≡ last + 2 = omega arith in
            line_read record {
              given = v.given;
              rest = drop last m;
              read = rw (name_at m from b z e, expect_here m to equals f, v.read, expect_here m last carriage_return g, expect_here m (last + 1) line_feed h, y) refl;
              values_are = v.read;
              name_is = name_bytes_at m from b z e;
              behind = omega (arith, v.above);
              inside = omega (arith, stands_inside m (last + 1) line_feed h);
            }
