-- Laws of the places of values: line by line, as the message is read.
use Rattle.std.proofs.Math.Path.{◌≡◌, ap}
use Rattle.std.specs.Prelude.{refl, List, [], ◌∷◌, ◌++◌, Bool, true, false, ◌&&◌, ℕ, zero, suc, ◌+◌, ◌≤◌, ◌<◌, drop, get_or, set, replicate, eqb, leb, Some, None, is_some, IfSome}
use Rattle.std.proofs.Common.{sym, subst, ◌∙◌, append_assoc, append-nil, arith, length-set, length-drop, drop_of_length-le, get_or-set_same, get_or-set_other, ne_eqb, eq-eqb, eqb-true}
use Rattle.std.proofs.Math.Option.{Option, none, some, map}
use Rattle.std.proofs.Math.ListN.{length}
use Rattle.std.proofs.lemmas.List.{length-replicate, get_or-replicate}
use Rattle.std.proofs.lemmas.Bool.{eqb-false}
use Rattle.spec_trees.specs.OptionLaws.{split, apart, map_some, leb_yes, leb_no}
use Rattle.spec_trees.specs.Lists.{filter}
use Rattle.spec_trees.specs.FilterLaws.{filter_append}
use Rattle.spec_tracer.specs.Message.{Line}
use Rattle.spec_tracer.specs.Reading.{values, message, line}
use Rattle.spec_tracer.specs.Traced.{label_named, lines_for, once_from, once}
use Rattle.spec_tracer.specs.MessageLaws.{before, message_none, message_next, message_refused}
use Rattle.tracer_lines.specs.Piece.{part}
use Rattle.tracer_lines.specs.Label.{label_of}
use Rattle.tracer_lines.specs.Line.{LineAt}
use Rattle.tracer_lines.specs.Places.{Place, PlaceIs, is_second, noted, ReadsLines, Reading}

-- ---- the lines of a label, with one more
for_append : (k : ℕ) (a b : List Line) → lines_for k (a ++ b) ≡ lines_for k a ++ lines_for k b
unfolding lines_for
for_append k a b = filter_append (λ l. eqb (label_named l.0) k) a b

for_this : (k : ℕ) (l : Line) (ls : List Line) → label_named l.0 ≡ k → lines_for k (l ∷ ls) ≡ l ∷ lines_for k ls
unfolding lines_for filter
for_this k l ls e = rw (eq-eqb (label_named l.0) k e) refl

for_other : (k : ℕ) (l : Line) (ls : List Line) → (label_named l.0 ≡ k → ⊥) → lines_for k (l ∷ ls) ≡ lines_for k ls
unfolding lines_for filter
for_other k l ls e = rw (ne_eqb (label_named l.0) k e) refl

for_none : (k : ℕ) → lines_for k [] ≡ []
unfolding lines_for filter
for_none k = refl

-- ---- once
once_from_lem : (k n : ℕ) (ls : List Line) → ((j : ℕ) → k ≤ j → j < k + n → length (lines_for j ls) ≤ 1) → once_from k n ls ≡ true
unfolding once_from
once_from_lem k zero ls h = refl
once_from_lem k (suc n) ls h =
    rw (leb_yes (length (lines_for k ls)) 1 (h k (omega arith) (omega arith)), once_from_lem (suc k) n ls (λ j a b. h j (omega arith) (omega arith))) refl

twice_from : (k n j : ℕ) (ls : List Line) → k ≤ j → j < k + n → 1 < length (lines_for j ls) → once_from k n ls ≡ false
unfolding once_from
twice_from k zero j ls a b h = absurd (omega (arith, a, b))
twice_from k (suc n) j ls a b h = split (eqb k j)
    (λ e. let z = eqb-true k j e in rw (leb_no (length (lines_for k ls)) 1 (subst (λ i. 1 < length (lines_for i ls)) (sym z) h)) refl)
    (λ e. let z = eqb-false k j e in
    let y : suc k ≤ j = omega (arith, a, z) in
    rw (twice_from (suc k) n j ls y (omega (arith, b)) h) (either (leb (length (lines_for k ls)) 1)))
  where
    either : (t : Bool) → (t && false) ≡ false
    either true = refl
    either false = refl

-- ---- a second line
second_label : (p : Place) → is_some p ≡ true → (a : ℕ) × (p ≡ Some a)
second_label None e = apart e refl
second_label (Some a) e = (a, refl)

second_free : (p : Place) → is_some p ≡ false → p ≡ None
second_free None e = refl
second_free (Some a) e = apart refl e

-- ---- at the beginning
map_none : {A : Type 0} (x : Option (List A)) → x ≡ map (λ ls. [] ++ ls) x
map_none none = refl
map_none (some a) = refl

pub reading_begins : (m : List ℕ) {ps : List Place} → ps ≡ replicate 8 None → Reading m 0 ps
reading_begins m {ps} e = record {
  done = [];
  inside = omega arith;
  rest = map_none (message m);
  places = record {
    count = ap length e ∙ length-replicate {A = Place} 8 None;
    each = λ k a b. record {
      missing = λ q. for_none k;
      there = λ a q. let z : None ≡ Some a = sym (ap (λ l. get_or l k None) e ∙ get_or-replicate {A = Place} 8 k None None b) ∙ q in cc;
    };
  };
}

-- ---- a line more
module _ {m : List ℕ} {at : ℕ} {ps : List Place} (h : Reading m at ps) {n next : ℕ} (l : LineAt m at n next) where
  abbrev name : List ℕ
  name = part at n m

  abbrev this : Line
  this = (name, l.given)

  more : (x : Option (List Line)) → map (λ ls. h.done ++ ls) (before this x) ≡ map (λ ls. (h.done ++ (this ∷ [])) ++ ls) x
  more none = refl
  more (some ls) = ap some (sym (append_assoc h.done (this ∷ []) ls))

  rest_more : message m ≡ map (λ ls. (h.done ++ (this ∷ [])) ++ ls) (message (drop next m))
  rest_more =
      h.rest ∙ ap (map (λ ls. h.done ++ ls)) (message_next (drop at m) (this, drop next m) l.read) ∙ more (message (drop next m))

  -- another label's entry says what it said
  other_place : (k : ℕ) {p : Place} → (label_named name ≡ k → ⊥) → PlaceIs m h.done k p → PlaceIs m (h.done ++ (this ∷ [])) k p
  other_place k z p =
      let same : lines_for k (h.done ++ (this ∷ [])) ≡ lines_for k h.done =
      for_append k h.done (this ∷ []) ∙ ap (λ x. lines_for k h.done ++ x) (for_other k this [] z ∙ for_none k) ∙ append-nil (lines_for k h.done) in
      record {
        missing = λ q. same ∙ p.missing q;
        there = λ a q. let t = p.there a q in record { line = t.line; rest = t.rest; alone = same ∙ t.alone; values_are = t.values_are; inside = t.inside };
      }

  -- this label's entry is new
  this_place : (k : ℕ) → label_named name ≡ k → lines_for k h.done ≡ [] → PlaceIs m (h.done ++ (this ∷ [])) k (Some (n + 1))
  this_place k z e = record {
    missing = λ q. cc;
    there = λ a q. let y : n + 1 ≡ a = cc in record {
      line = this;
      rest = l.rest;
      alone = for_append k h.done (this ∷ []) ∙ ap (λ x. x ++ lines_for k (this ∷ [])) e ∙ for_this k this [] z ∙ ap (λ x. this ∷ x) (for_none k);
      values_are = ap (λ i. values (drop i m)) (sym y) ∙ l.values_are;
      inside = omega (arith, sym y, l.behind, l.inside);
    };
  }

  -- no label's entry changes
  reading_nameless : label_named name ≡ 0 → Reading m next ps
  reading_nameless z = record {
    done = h.done ++ (this ∷ []);
    inside = l.inside;
    rest = rest_more;
    places = record {
      count = h.places.count;
      each = λ k i j. other_place k (λ w. omega (arith, w, z, i)) (h.places.each k i j);
    };
  }

  module _ {k : ℕ} (z : label_named name ≡ k) (a : 1 ≤ k) (b : k < 8) where
    reading_named : get_or ps k None ≡ None → Reading m next (set ps k (Some (n + 1)))
    reading_named free = record {
      done = h.done ++ (this ∷ []);
      inside = l.inside;
      rest = rest_more;
      places = record {
        count = length-set ps k (Some (n + 1)) ∙ h.places.count;
        each = λ j i e. split (eqb k j)
            (λ w. let q = eqb-true k j w in
            let f : get_or (set ps k (Some (n + 1))) k None ≡ Some (n + 1) = get_or-set_same ps k (Some (n + 1)) None (omega (arith, h.places.count, b)) in
            subst (λ x. PlaceIs m (h.done ++ (this ∷ [])) x (get_or (set ps k (Some (n + 1))) x None)) q
            (subst (PlaceIs m (h.done ++ (this ∷ [])) k) (sym f) (this_place k z ((h.places.each k a b).missing free))))
            (λ w. let q = eqb-false k j w in
            subst (PlaceIs m (h.done ++ (this ∷ [])) j) (sym (get_or-set_other ps k j (Some (n + 1)) None (λ x. q (sym x)))) (other_place j (λ x. q (sym z ∙ x)) (h.places.each j i e)));
      };
    }

    -- the label had a line already
    twice : (ls : List Line) {p : ℕ} → get_or ps k None ≡ Some p → once ((h.done ++ (this ∷ [])) ++ ls) ≡ false
    unfolding once
    twice ls {p} q =
        let t = (h.places.each k a b).there p q in
        let c : lines_for k ((h.done ++ (this ∷ [])) ++ ls) ≡ t.line ∷ this ∷ lines_for k ls =
        ap (lines_for k) (append_assoc h.done (this ∷ []) ls) ∙ for_append k h.done (this ∷ ls)
        ∙ ap (λ x. x ++ lines_for k (this ∷ ls)) t.alone ∙ ap (λ x. t.line ∷ x) (for_this k this ls z) in
        twice_from 1 7 k ((h.done ++ (this ∷ [])) ++ ls) a b (omega (arith, ap length c))

  module _ {label : Place} (z : label ≡ label_of (label_named name)) (b : IfSome label (λ k. k < 8)) where
    pub reading_next : is_second label ps ≡ false → Reading m next (noted label (n + 1) ps)
    reading_next = subst (λ x. is_second x ps ≡ false → Reading m next (noted x (n + 1) ps)) (sym z)
        (go (label_named name) refl (subst (λ x. IfSome x (λ k. k < 8)) z b))
      where
        go : (k : ℕ) → label_named name ≡ k → IfSome (label_of k) (λ i. i < 8) → is_second (label_of k) ps ≡ false → Reading m next (noted (label_of k) (n + 1) ps)
        go zero e l s = reading_nameless e
        go (suc k) e l s = reading_named e (omega arith) l (second_free (get_or ps (suc k) None) s)

    pub reading_twice : is_second label ps ≡ true → ReadsLines m ps false
    reading_twice = subst (λ x. is_second x ps ≡ true → ReadsLines m ps false) (sym z)
        (go (label_named name) refl (subst (λ x. IfSome x (λ k. k < 8)) z b))
      where
        go : (k : ℕ) → label_named name ≡ k → IfSome (label_of k) (λ i. i < 8) → is_second (label_of k) ps ≡ true → ReadsLines m ps false
        go zero e l s = apart s refl
        go (suc k) e l s = record {
          noted = λ x. let u : ◌≡◌ {A = ℕ} 0 1 = cc in absurd (omega arith);
          refused = λ x ls e2.
              let (rs, f, g) = map_some (λ rs. (h.done ++ (this ∷ [])) ++ rs) (message (drop next m)) (sym rest_more ∙ e2) in
              let p = second_label (get_or ps (suc k) None) s in
              subst (λ y. once y ≡ false) g (twice e (omega arith) l rs p.1);
        }

-- ---- at the end
module _ {m : List ℕ} {at : ℕ} {ps : List Place} (h : Reading m at ps) where
  -- a line is out of form
  pub reading_refused : at < length m → line (drop at m) ≡ none → ReadsLines m ps false
  reading_refused l e = record {
    noted = λ x. let u : ◌≡◌ {A = ℕ} 0 1 = cc in absurd (omega arith);
    refused = λ x ls f.
        let z : message (drop at m) ≡ none = message_refused (drop at m) (omega (arith, length-drop at m)) e in
        let y : message m ≡ none = h.rest ∙ ap (map (λ ls. h.done ++ ls)) z in
        let u : ◌≡◌ {A = ℕ} 0 1 = cc in
        absurd (omega arith);
  }

  few : (k : ℕ) → 1 ≤ k → k < 8 → length (lines_for k h.done) ≤ 1
  few k a b =
      let p = h.places.each k a b in
      split (is_some (get_or ps k None))
      (λ e. let s = second_label (get_or ps k None) e in let q = ap length (p.there s.0 s.1).alone in omega (arith, q))
      (λ e. let q = ap length (p.missing (second_free (get_or ps k None) e)) in omega (arith, q))

  pub reading_ends : (at < length m → ⊥) → ReadsLines m ps true
  unfolding once
  reading_ends l = record {
    noted = λ x. record {
      lines = h.done;
      read = h.rest ∙ ap (λ k. map (λ ls. h.done ++ ls) (message k)) (drop_of_length-le m {i = at} (omega (arith, l)))
          ∙ ap (map (λ ls. h.done ++ ls)) message_none ∙ ap some (append-nil h.done);
      single = once_from_lem 1 7 h.done (λ j a b. few j a b);
      places = h.places;
    };
    refused = λ x. let u : ◌≡◌ {A = ℕ} 0 1 = cc in absurd (omega arith);
  }
