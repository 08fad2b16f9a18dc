use Rattle.std.proofs.Common.{◌≡◌, ◌<◌, ◌≤◌, ℕ, get_or, length, ltb, rules, ap, sym, subst, ◌∙◌, arith, Some}
use Rattle.std.specs.List.{flat_map}
use Rattle.std.specs.Global.{Vec}
use Rattle.std.proofs.lemmas.List.Elements.{All-same}
use Rattle.std.proofs.lemmas.List.Sorted.{IsPartitionPoint-from_clause, IsPartitionedBy-ltb}
use Rattle.std.proofs.lemmas.Bool.{ltb-true, ltb-false}
use Rattle.aodv_asked.specs.declared.interval.Interval.{Interval}
use Rattle.aodv_asked.specs.Intervals.{AreApart}
use Rattle.aodv_asked.specs.Spots.{position_at, last_in, IsFirstFrom, IsPosition}
use Rattle.aodv_asked.proofs.FindLaws.{ends_rise}
use Rattle.aodv_asked.proofs.ChunkLaws.{listed, lengths, AreFilled, position_within}
use Rattle.aodv_asked.proofs.ChunkFinds.{chunks_rise, found_in, found_past, inside_if, apart_in}
use Rattle.aodv_asked.proofs.chunks.Chunks.find.Goals as goal

pub returns-then-chunk-len : goal.returns-then-chunk-len
returns-then-chunk-len c =
    let cs = c.self.inside.chunks.items in
    let xs = c.as_slice.result.now in
    let apart : AreApart 0 (flat_map listed xs) = subst (AreApart 0) (sym (ap (λ s. s.items) c.self.view_is) ∙ ap (λ ys. flat_map listed ys) (sym c.as_slice.ensures.value)) c.requires in
    let rise = ends_rise (flat_map listed xs) apart in
    let filled : AreFilled listed xs = All-same (λ y. 0 < length (listed y)) xs cs c.as_slice.ensures.value c.self.invariant.0 in
    let parted = IsPartitionedBy-ltb (λ y. last_in (listed y)) xs c.args.from (chunks_rise listed xs rise filled) in
    let point = IsPartitionPoint-from_clause (λ y. ltb (last_in (listed y)) c.args.from) _ _ c.partition_point-chunk.ensures.partitioned parted (λ a r q k. search rules) in
    let k = c.partition_point-chunk.result in
    let all : length xs ≤ k = omega (arith, c.if-chunk-len.true, c.len.ensures, c.as_slice.ensures.len) in
    let before : (i : ℕ) (e : Vec Interval) → i < length xs → last_in (listed (get_or xs i e)) < c.args.from = λ i e lt. ltb-true _ _ (point.0 i e (omega arith) (omega arith)) in
    subst (λ vs. IsPosition vs c.args.from (length vs)) (ap (λ ys. flat_map listed ys) c.as_slice.ensures.value ∙ ap (λ s. s.items) c.self.view_is) (found_past listed xs c.args.from rise before)

pub count_before-offset-requires : goal.count_before-offset-requires
count_before-offset-requires c =
    let cs = c.self.inside.chunks.items in
    let k = c.partition_point-chunk.result in
    let x = c.index.result.now in
    let apart : AreApart 0 (flat_map listed cs) = subst (AreApart 0) (sym (ap (λ s. s.items) c.self.view_is)) c.requires in
    let le : k ≤ length c.as_slice.result.now = c.partition_point-chunk.ensures.bound in
    let lt : k < length cs = omega (arith, le, c.if-chunk-len.false, c.len.ensures, c.as_slice.ensures.len, c.self.inside.chunks.ok) in
    subst (AreApart 0) (ap listed (sym c.index.ensures) ∙ sym c.as_slice-2.ensures.value) (apart_in listed cs k x apart lt)

pub returns : goal.returns
returns c =
    let cs = c.self.inside.chunks.items in
    let xs = c.as_slice.result.now in
    let apart : AreApart 0 (flat_map listed xs) = subst (AreApart 0) (sym (ap (λ s. s.items) c.self.view_is) ∙ ap (λ ys. flat_map listed ys) (sym c.as_slice.ensures.value)) c.requires in
    let rise = ends_rise (flat_map listed xs) apart in
    let filled : AreFilled listed xs = All-same (λ y. 0 < length (listed y)) xs cs c.as_slice.ensures.value c.self.invariant.0 in
    let parted = IsPartitionedBy-ltb (λ y. last_in (listed y)) xs c.args.from (chunks_rise listed xs rise filled) in
    let point = IsPartitionPoint-from_clause (λ y. ltb (last_in (listed y)) c.args.from) _ _ c.partition_point-chunk.ensures.partitioned parted (λ a r q k. search rules) in
    let k = c.partition_point-chunk.result in
    let o = c.count_before-offset.result in
    let x = c.index.result.now in
    let le : k ≤ length xs = c.partition_point-chunk.ensures.bound in
    let lt : k < length xs = omega (arith, le, c.if-chunk-len.false, c.len.ensures, c.as_slice.ensures.len) in
    let before : (i : ℕ) (e : Vec Interval) → i < k → last_in (listed (get_or xs i e)) < c.args.from = λ i e less. ltb-true _ _ (point.0 i e (omega arith) less) in
    let here : x ≡ get_or xs k x = c.index.ensures ∙ ap (λ ys. get_or ys k x) (sym c.as_slice.ensures.value) in
    let at : IsPosition (listed (get_or xs k x)) c.args.from o = subst (λ vs. IsPosition vs c.args.from o) (c.as_slice-2.ensures.value ∙ ap listed here) c.count_before-offset.ensures in
    let last : c.args.from ≤ last_in (listed (get_or xs k x)) = ltb-false _ _ (point.1 k x (omega arith) lt) in
    let inside = inside_if (listed (get_or xs k x)) c.args.from o at (filled k x lt) last in
    subst (λ s. IsFirstFrom s c.args.from (Some (record { chunk = k; offset = o }))) c.self.view_is
    (subst (λ ys. IsPosition (flat_map listed ys) c.args.from (position_at (lengths listed ys) k o) × (position_at (lengths listed ys) k o < length (flat_map listed ys))) c.as_slice.ensures.value
    (found_in listed xs c.args.from k o x rise before lt at inside, position_within listed xs k o x lt inside))
