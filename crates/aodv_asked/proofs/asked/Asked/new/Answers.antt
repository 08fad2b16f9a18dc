use Rattle.std.proofs.Common.{◌≡◌, ◌+◌, ◌∷◌, [], true, length, ap, sym, subst, ◌∙◌, arith}
use Rattle.std.proofs.Math.ListN.{replicate}
use Rattle.std.proofs.lemmas.List.{length-append}
use Rattle.std.specs.List.{All}
use Rattle.aodv_asked.specs.Intervals.{RoomyIds}
use Rattle.aodv_asked.specs.Rows.{pairs_of}
use Rattle.aodv_asked.specs.Tops.{no_top, rows_with_tops, AreKept}
use Rattle.aodv_asked.proofs.RowLaws.{AreEmpty, empty_at, empty_push, empty_pairs, rooms_push}
use Rattle.aodv_asked.proofs.KeptLaws.{topped_empty, rooms_none, kept_none, none_noted, noted_below, room_of_all}
use Rattle.aodv_asked.proofs.asked.Asked.new.Goals as goal

pub loop-o-init : goal.loop-o-init
loop-o-init c = record {
  len = ap length c.in_ok-rows.ensures.items;
  empty = subst AreEmpty (sym c.in_ok-rows.ensures.items) tt;
  rooms = subst (All (λ (r : RoomyIds). r.room ≡ 1)) (sym c.in_ok-rows.ensures.items) (λ k d lt. absurd (omega arith));
  roomy = none_noted c.new-roomy.result c.new-roomy.ensures;
}

pub loop-o-preserved : goal.loop-o-preserved
loop-o-preserved c = record {
  len = ap length c.in_ok-push.ensures.items ∙ length-append c.loop-o.rows.items (c.new.result ∷ []) ∙ ap (λ n. n + 1) c.loop-o.invariant.len;
  empty = subst AreEmpty (sym c.in_ok-push.ensures.items) (empty_push c.loop-o.rows.items c.new.result c.loop-o.invariant.empty c.new.ensures.ids);
  rooms = subst (All (λ (r : RoomyIds). r.room ≡ 1)) (sym c.in_ok-push.ensures.items) (rooms_push c.loop-o.rows.items c.new.result 1 c.loop-o.invariant.rooms c.new.ensures.room);
  roomy = noted_below c.loop-o.roomy c.note_room.new.roomy c.loop-o.o true c.loop-o.invariant.roomy c.note_room.ensures;
}

pub invariant_of-result : goal.invariant_of-result
invariant_of-result c =
    let tops : c.in_ok-tops.tops.items ≡ replicate c.args.nodes no_top = c.in_ok-tops.ensures.items_if_clones_equal (λ y same. same) ∙ ap (replicate c.args.nodes) c.none.ensures in
    let full : length c.loop-o.rows.items ≡ c.args.nodes = omega (arith, c.loop-o.invariant.len, c.loop-o.auto.o-end, c.loop-o-test.false) in
    subst (λ vs. AreKept c.loop-o.rows.items vs c.loop-o.roomy) (sym tops) (kept_none c.loop-o.rows.items c.loop-o.roomy c.args.nodes full (λ o. empty_at c.loop-o.rows.items o c.loop-o.invariant.empty) (λ o lt. room_of_all c.loop-o.rows.items o 0 c.loop-o.invariant.rooms lt) (λ o here. room_of_all c.loop-o.rows.items o 0 c.loop-o.invariant.rooms (omega (arith, c.loop-o.invariant.len, c.loop-o.invariant.roomy o here))))

pub returns-clause-pairs : goal.returns-clause-pairs
returns-clause-pairs c =
    let tops : c.in_ok-tops.tops.items ≡ replicate c.args.nodes no_top = c.in_ok-tops.ensures.items_if_clones_equal (λ y same. same) ∙ ap (replicate c.args.nodes) c.none.ensures in
    ap (λ vs. pairs_of (rows_with_tops c.loop-o.rows.items vs)) tops ∙ empty_pairs (rows_with_tops c.loop-o.rows.items (replicate c.args.nodes no_top)) (topped_empty c.loop-o.rows.items c.args.nodes c.loop-o.invariant.empty)

pub returns-clause-rooms : goal.returns-clause-rooms
returns-clause-rooms c =
    let tops : c.in_ok-tops.tops.items ≡ replicate c.args.nodes no_top = c.in_ok-tops.ensures.items_if_clones_equal (λ y same. same) ∙ ap (replicate c.args.nodes) c.none.ensures in
    let full : length c.loop-o.rows.items ≡ c.args.nodes = omega (arith, c.loop-o.invariant.len, c.loop-o.auto.o-end, c.loop-o-test.false) in
    λ o lt. rooms_none c.loop-o.rows.items c.in_ok-tops.tops.items c.args.nodes o 1 tops full c.loop-o.invariant.rooms lt
