-- Lent tails: what stands at the end of a tail stands at the end of the whole.
use Rattle.std.specs.Prelude.{◌≡◌, List, ◌++◌, ℕ, ◌+◌, ◌-◌, ◌≤◌, length, take, drop}
use Rattle.std.proofs.Common.{ap, ◌∙◌, append-nil, arith, length-append, length-drop, drop_of_length-le, take_all, take_at, drop-drop, length-take-le, take-take}
use Rattle.std.proofs.Math.Seq.{drop-append-add}
use Rattle.areas.specs.Area.{Is}
use Rattle.areas.specs.AreaLaws.{is_part_lem, drop_more}
use Rattle.map.specs.Map.{end_part, collector_at}
use Rattle.stream.specs.Collector.{ends}
use Rattle.stream.specs.Tails.{tail, lent}

module _ (a : ℕ) (w : List ℕ) where
  pub tail_drop : tail a w ≡ drop a w
  tail_drop = take_all (length w - a) (drop a w) (omega (arith, length-drop a w))

  pub tail_length : length (tail a w) ≡ length w - a
  tail_length = ap length tail_drop ∙ length-drop a w

  pub ends_tail : a + end_part ≤ length w → ends (tail a w) ≡ ends w
  ends_tail h =
      let n : a + collector_at (length (drop a w)) ≡ collector_at (length w) = omega (arith, length-drop a w) in
      ap (λ (l : List ℕ). drop (collector_at (length l)) l) tail_drop ∙ drop-drop (collector_at (length (drop a w))) a w ∙ ap (λ (k : ℕ). drop k w) n

  -- what stands from a on stands at the front of the tail
  pub tail_is : {e : ℕ} {xs : List ℕ} → Is w a e xs → Is (tail a w) 0 (e - a) xs
  tail_is {e} {xs} h = record {
    lies = take-take (e - a) (length w - a) (drop a w) (omega (arith, h.inside)) ∙ is_part_lem h;
    ends = omega (arith, h.ends);
    inside = omega (arith, h.inside, tail_length);
  }

  module _ (y : List ℕ) (b : a ≤ length w) (l : length y ≡ length (tail a w)) where
    lent_is : lent a w y ≡ take a w ++ y
    lent_is = ap (λ (z : List ℕ). take a w ++ (y ++ z)) (drop_of_length-le (drop a w) {i = length w - a} (omega (arith, length-drop a w)))
        ∙ ap (λ (z : List ℕ). take a w ++ z) (append-nil y)

    pub lent_length : length (lent a w y) ≡ length w
    lent_length = ap length lent_is ∙ omega (arith, length-append (take a w) y, length-take-le a w b, l, tail_length)

    pub lent_front : take a (lent a w y) ≡ take a w
    lent_front = take_at (take a w) (y ++ drop (length w - a) (drop a w)) a (length-take-le a w b)

    pub ends_lent : a + end_part ≤ length w → ends (lent a w y) ≡ ends y
    ends_lent h =
        let n : collector_at (length (take a w ++ y)) ≡ length (take a w) + collector_at (length y) = omega (arith, length-append (take a w) y, l, tail_length) in
        ap (λ (z : List ℕ). drop (collector_at (length z)) z) lent_is ∙ ap (λ (k : ℕ). drop k (take a w ++ y)) n
        ∙ drop-append-add (take a w) y (collector_at (length y))

-- all from a place on is as it was, so the end is
pub ends_beyond : (w v : List ℕ) (a : ℕ) → length v ≡ length w → a + end_part ≤ length w → drop a v ≡ drop a w → ends v ≡ ends w
ends_beyond w v a l b h = ap (λ (k : ℕ). drop (collector_at k) v) l ∙ drop_more w v a (collector_at (length w)) (omega arith) h
