-- A line is read as what its bytes are, and as nothing else.
use Rattle.std.specs.Prelude.{◌≡◌, refl, List, [], ◌∷◌, ◌++◌, Bool, true, false, cond, ◌&&◌, ℕ, ◌≤◌, ◌<◌, length, eqb, leb}
use Rattle.std.proofs.Common.{sym, ap, subst, ◌∙◌, append_assoc, arith, length-append, eqb-true, leb-true}
use Rattle.std.proofs.Math.Option.{none, some, map}
use Rattle.spec_trees.specs.Options.{◌>>=◌, only}
use Rattle.spec_trees.specs.Lists.{all}
use Rattle.spec_trees.specs.OptionLaws.{only_some, bind_some, map_some, T_true, both_true, eqb_same, leb_yes, leb_no, some_equal}
use Rattle.spec_tracer.specs.Limits.{name_max, value_max}
use Rattle.spec_tracer.specs.Message.{equals, semicolon, carriage_return, line_feed, is_capital, is_digit, is_name_byte, is_value_byte, begins, is_name, is_value, Line, values_bytes, line_bytes, is_line, front, behind}
use Rattle.spec_tracer.specs.Reading.{expect, name, value, both, second, values, line}
use Rattle.spec_tracer.specs.FrontLaws.{front_all, piece_read, piece_none, piece_back, piece_form}

-- ---- a byte that must stand there
pub expect_back : (x : ℕ) (m : List ℕ) → expect x (x ∷ m) ≡ some m
unfolding expect only
expect_back x m = rw eqb_same refl

pub expect_form : (x : ℕ) (m r : List ℕ) → expect x m ≡ some r → m ≡ x ∷ r
unfolding expect
expect_form x [] r e = let z : ◌≡◌ {A = ℕ} 0 1 = cc in absurd (omega arith)
expect_form x (b ∷ m) r e =
    let (t, z) = only_some (eqb b x) (some m) e in
    let p : b ≡ x = eqb-true b x (T_true (eqb b x) t) in
    let q : m ≡ r = cc in
    rw (p, q) refl

-- ---- names and values, by what their tests say
pub value_read : (m : List ℕ) → length (front is_value_byte m) ≤ value_max → value m ≡ some (front is_value_byte m, behind is_value_byte m)
unfolding value is_value
value_read m h = piece_read is_value_byte is_value m (rw (front_all, leb_yes (length (front is_value_byte m)) value_max h) refl)

pub value_long : (m : List ℕ) → value_max < length (front is_value_byte m) → value m ≡ none
unfolding value is_value
value_long m h = piece_none is_value_byte is_value m (rw (front_all, leb_no (length (front is_value_byte m)) value_max h) refl)

pub name_read : (m : List ℕ) → begins is_capital (front is_name_byte m) ≡ true → length (front is_name_byte m) ≤ name_max
    → name m ≡ some (front is_name_byte m, behind is_name_byte m)
unfolding name is_name
name_read m b h = piece_read is_name_byte is_name m (rw (b, front_all, leb_yes (length (front is_name_byte m)) name_max h) refl)

pub name_small : (m : List ℕ) → begins is_capital (front is_name_byte m) ≡ false → name m ≡ none
unfolding name is_name
name_small m b = piece_none is_name_byte is_name m (rw b refl)

pub name_long : (m : List ℕ) → name_max < length (front is_name_byte m) → name m ≡ none
unfolding name is_name
name_long m h = piece_none is_name_byte is_name m (rw (front_all, leb_no (length (front is_name_byte m)) name_max h) (no_end (begins is_capital (front is_name_byte m))))
  where
    no_end : (b : Bool) → (b && true && false) ≡ false
    no_end true = refl
    no_end false = refl

-- ---- written and read
pub value_bytes : (v : List ℕ) → is_value v ≡ true → all is_value_byte v ≡ true
unfolding is_value
value_bytes v h = (both_true (all is_value_byte v) (leb (length v) value_max) h).0

pub value_short : (v : List ℕ) → is_value v ≡ true → length v ≤ value_max
unfolding is_value
value_short v h = leb-true (length v) value_max (both_true (all is_value_byte v) (leb (length v) value_max) h).1

pub name_bytes : (n : List ℕ) → is_name n ≡ true → all is_name_byte n ≡ true
unfolding is_name
name_bytes n h =
    let p = both_true (begins is_capital n && all is_name_byte n) (leb (length n) name_max) h in
    (both_true (begins is_capital n) (all is_name_byte n) p.0).1

value_back : (v r : List ℕ) → is_value v ≡ true → begins is_value_byte r ≡ false → value (v ++ r) ≡ some (v, r)
unfolding value
value_back v r h e = piece_back is_value_byte is_value v r (value_bytes v h) e h

name_back : (n r : List ℕ) → is_name n ≡ true → begins is_name_byte r ≡ false → name (n ++ r) ≡ some (n, r)
unfolding name
name_back n r h e = piece_back is_name_byte is_name n r (name_bytes n h) e h

-- the end of a line, which is no value's byte
abbrev end_of : List ℕ → List ℕ
end_of r = carriage_return ∷ line_feed ∷ r

values_one : (v r : List ℕ) → is_value v ≡ true → values (v ++ end_of r) ≡ some (v ∷ [], end_of r)
unfolding values ◌>>=◌ second begins is_value_byte
values_one v r h = rw (value_back v (end_of r) h refl) refl

values_two : (v u r : List ℕ) → is_value v ≡ true → is_value u ≡ true → values (v ++ (semicolon ∷ (u ++ end_of r))) ≡ some (v ∷ u ∷ [], end_of r)
unfolding values ◌>>=◌ second begins is_value_byte
values_two v u r h k = rw (value_back v (semicolon ∷ (u ++ end_of r)) h refl, value_back u (end_of r) k refl) refl

values_back : (vs : List (List ℕ)) (r : List ℕ) → all is_value vs ≡ true → 1 ≤ length vs → length vs ≤ 2
    → values (values_bytes vs ++ end_of r) ≡ some (vs, end_of r)
unfolding values_bytes all
values_back [] r h a b = absurd (omega arith)
values_back (v ∷ []) r h a b = values_one v r (both_true (is_value v) true h).0
values_back (v ∷ u ∷ []) r h a b =
    let p = both_true (is_value v) (is_value u && true) h in
    let q = both_true (is_value u) true p.1 in
    rw (append_assoc v (semicolon ∷ u) (end_of r)) (values_two v u r p.0 q.0)
values_back (v ∷ u ∷ x ∷ xs) r h a b = absurd (omega arith)

-- what is_line says
pub record Formed (l : Line) : Type 0 where
  pub named : is_name l.0 ≡ true
  pub valued : all is_value l.1 ≡ true
  pub least : 1 ≤ length l.1
  pub most : length l.1 ≤ 2

pub line_formed : (l : Line) → is_line l ≡ true → Formed l
unfolding is_line
line_formed l h =
    let n = length l.1 in
    let p = both_true (is_name l.0 && all is_value l.1 && leb 1 n) (leb n 2) h in
    let q = both_true (is_name l.0 && all is_value l.1) (leb 1 n) p.0 in
    let s = both_true (is_name l.0) (all is_value l.1) q.0 in
    record { named = s.0; valued = s.1; least = leb-true 1 n q.1; most = leb-true n 2 p.1 }

pub formed_line : (l : Line) → Formed l → is_line l ≡ true
unfolding is_line
formed_line l f = rw (f.named, f.valued, leb_yes 1 (length l.1) f.least, leb_yes (length l.1) 2 f.most) refl

line_bytes_lem : (l : Line) (r : List ℕ) → line_bytes l ++ r ≡ l.0 ++ (equals ∷ (values_bytes l.1 ++ end_of r))
unfolding line_bytes
line_bytes_lem l r =
    append_assoc l.0 (equals ∷ (values_bytes l.1 ++ end_of [])) r
    ∙ ap (λ x. l.0 ++ (equals ∷ x)) (append_assoc (values_bytes l.1) (end_of []) r)

pub line_back : (l : Line) (r : List ℕ) → is_line l ≡ true → line (line_bytes l ++ r) ≡ some (l, r)
unfolding line ◌>>=◌ begins is_name_byte is_capital is_digit
line_back l r h =
    let f = line_formed l h in
    rw (line_bytes_lem l r, name_back l.0 (equals ∷ (values_bytes l.1 ++ end_of r)) f.named refl, expect_back, values_back l.1 r f.valued f.least f.most, expect_back, expect_back) refl

-- ---- read and written
value_form : (m v r : List ℕ) → value m ≡ some (v, r) → (m ≡ v ++ r) × (is_value v ≡ true)
unfolding value
value_form m v r e = piece_form is_value_byte is_value m v r e

name_form : (m n r : List ℕ) → name m ≡ some (n, r) → (m ≡ n ++ r) × (is_name n ≡ true)
unfolding name
name_form m n r e = piece_form is_name_byte is_name m n r e

-- v with m behind it is these values with r behind them
record Spelled (v m : List ℕ) (q : List (List ℕ) × List ℕ) : Type 0 where
  bytes : v ++ m ≡ values_bytes q.0 ++ q.1
  valued : all is_value q.0 ≡ true
  least : 1 ≤ length q.0
  most : length q.0 ≤ 2

spelled_one : (v m : List ℕ) → is_value v ≡ true → Spelled v m (v ∷ [], m)
unfolding values_bytes all
spelled_one v m h = record { bytes = refl; valued = rw h refl; least = omega arith; most = omega arith }

spelled_two : (v u m r : List ℕ) (b : ℕ) → is_value v ≡ true → is_value u ≡ true → b ≡ semicolon → m ≡ u ++ r → Spelled v (b ∷ m) (v ∷ u ∷ [], r)
unfolding values_bytes all
spelled_two v u m r b h k e f = record {
  bytes = rw (e, f, append_assoc v (semicolon ∷ u) r) refl;
  valued = rw (h, k) refl;
  least = omega arith;
  most = omega arith;
}

second_form : (v m : List ℕ) (q : List (List ℕ) × List ℕ) → is_value v ≡ true → second v m ≡ some q → Spelled v m q
unfolding second
second_form v [] q h e = subst (Spelled v []) (some_equal (v ∷ [], []) q e) (spelled_one v [] h)
second_form v (b ∷ m) q h e = go (eqb b semicolon) refl e
  where
    go : (t : Bool) → eqb b semicolon ≡ t → cond t (map (both v) (value m)) (some (v ∷ [], b ∷ m)) ≡ some q → Spelled v (b ∷ m) q
    go true o z =
        let (p, k, d) = map_some (both v) (value m) z in
        let (w, i) = value_form m p.0 p.1 k in
        subst (Spelled v (b ∷ m)) d (spelled_two v p.0 m p.1 b h i (eqb-true b semicolon o) w)
    go false o z = subst (Spelled v (b ∷ m)) (some_equal (v ∷ [], b ∷ m) q z) (spelled_one v (b ∷ m) h)

-- the bytes that were read
pub record LineIs (m : List ℕ) (l : Line) (r : List ℕ) : Type 0 where
  pub bytes : m ≡ line_bytes l ++ r
  pub formed : is_line l ≡ true

line_made : (m c n : List ℕ) (vs : List (List ℕ)) (r : List ℕ) → m ≡ n ++ (equals ∷ c) → is_name n ≡ true
    → c ≡ values_bytes vs ++ end_of r → all is_value vs ≡ true → 1 ≤ length vs → length vs ≤ 2 → LineIs m (n, vs) r
line_made m c n vs r a b e f g h = record {
  bytes = a ∙ ap (λ x. n ++ (equals ∷ x)) e ∙ sym (line_bytes_lem (n, vs) r);
  formed = formed_line (n, vs) record { named = b; valued = f; least = g; most = h };
}

pub line_form : (m : List ℕ) (q : Line × List ℕ) → line m ≡ some q → LineIs m q.0 q.1
unfolding line values
line_form m q e =
    let (n, e1, z1) = bind_some _ (name m) e in
    let (c, e2, z2) = bind_some _ (expect equals n.1) z1 in
    let (v, e3, z3) = bind_some _ (values c) z2 in
    let (d, e4, z4) = bind_some _ (expect carriage_return v.1) z3 in
    let (r, e5, z5) = bind_some _ (expect line_feed d) z4 in
    let (x, e6, z6) = bind_some _ (value c) e3 in
    let (a, b) = name_form m n.0 n.1 e1 in
    let (f, g) = value_form c x.0 x.1 e6 in
    let s = second_form x.0 x.1 v g z6 in
    let w : v.1 ≡ end_of r = expect_form carriage_return v.1 d e4 ∙ ap (λ y. carriage_return ∷ y) (expect_form line_feed d r e5) in
    let made = line_made m c n.0 v.0 r (a ∙ ap (λ y. n.0 ++ y) (expect_form equals n.1 c e2)) b
    (f ∙ s.bytes ∙ ap (λ y. values_bytes v.0 ++ y) w) s.valued s.least s.most in
    subst (λ y. LineIs m y.0 y.1) (some_equal ((n.0, v.0), r) q z5) made

-- what is left is shorter
pub line_shorter : (m : List ℕ) (q : Line × List ℕ) → line m ≡ some q → length q.1 < length m
unfolding line_bytes
line_shorter m q e =
    let f = line_form m q e in
    let l = q.0 in
    let a = ap length f.bytes ∙ length-append (line_bytes l) q.1 in
    let b = length-append l.0 (equals ∷ (values_bytes l.1 ++ end_of [])) in
    omega (arith, a, b)
