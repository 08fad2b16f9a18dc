-- Laws about a script's lines as they are run.
use Rattle.std.proofs.Common.{◌≡◌, ℕ, ◌+◌, ◌*◌, ◌≤◌, is_some, List, [], ◌∷◌, ◌++◌, length, length-append, refl, sym, ap, ◌∙◌, subst, append_assoc, arith}
use Rattle.mesh_io.specs.declared.sink.Sink as sinks
use Rattle.mesh_link.specs.declared.link.Link as links
use Rattle.mesh_shell.specs.Pieces.{Piece, Whole, Long, Beyond}
use Rattle.mesh_shell.specs.Scripts.{size_of_pieces}
use Rattle.mesh_router.specs.declared.run.Routing.{Routing}
use Rattle.mesh_router.specs.Logs.{Log, nothing, followed_by}
use Rattle.mesh_router.specs.Routers.{Router, router_in}
use Rattle.mesh_router.specs.Finds.{Find, left_after}
use Rattle.mesh_router.specs.Seen.{IsGrown, most_grown}
use Rattle.mesh_router.specs.Text.{Run, run_after, run_from}
use Rattle.mesh_router.specs.Joins.{adds-none, adds-join, next-front, next-rest, left-join, found-none, found-join}
use Rattle.mesh_router.specs.Routing.{outputs_by, arrived_by, IsKept, HasLed, HasRoomFor}

pub kept_both : {O L : Type 0} (sink : sinks.Ghosts O) (link : links.Ghosts L)
    (a b c : Routing O L) → IsKept sink link a b → IsKept sink link b c → IsKept sink link a c
kept_both sink link a b c p q = record {
  same_out = q.same_out ∙ p.same_out;
  same_link = q.same_link ∙ p.same_link;
  port = q.port ∙ p.port;
  writes = omega (arith, p.writes, q.writes);
  sends = omega (arith, p.sends, q.sends);
}

pub kept_same : {O L : Type 0} (sink : sinks.Ghosts O) (link : links.Ghosts L)
    (a : Routing O L) → IsKept sink link a a
kept_same sink link a = record {
  same_out = refl;
  same_link = refl;
  port = refl;
  writes = omega arith;
  sends = omega arith;
}

after_both : (a b : Log) (run : Run)
    → run_after a (run_after b run) ≡ run_after (followed_by a b) run
after_both a b run = ap (λ l. record run { log = l }) (sym (append_assoc a b run.log))

grown_both : (m n : ℕ) (a b c : Router) → IsGrown (most_grown * m) a b
    → IsGrown (most_grown * n) b c → IsGrown (most_grown * (m + n)) a c
grown_both m n a b c p q = record {
  heard = (let x = p.heard in let y = q.heard in omega arith);
  sent = (let x = p.sent in let y = q.sent in omega arith);
  dropped = (let x = p.dropped in let y = q.dropped in omega arith);
}

-- without lines the run stays where it is
pub stays_there : {O L : Type 0} (sink : sinks.Ghosts O) (link : links.Ghosts L)
    (a : Routing O L) → HasLed sink link a [] a
stays_there sink link a = record {
  kept = kept_same sink link a;
  found = [];
  taken = found-none (arrived_by link a);
  log = nothing;
  adds = adds-none (outputs_by sink link a);
  goes = λ others finds are. refl;
  count = omega arith;
  grown = record { heard = omega arith; sent = omega arith; dropped = omega arith };
  no_write = refl;
  no_send = refl;
}

-- what lines and then others lead to is what all of them lead to
pub joins_both : {O L : Type 0} (sink : sinks.Ghosts O) (link : links.Ghosts L)
    (a b c : Routing O L) (lines others : List Piece) → HasLed sink link a lines b
    → HasLed sink link b others c → HasLed sink link a (lines ++ others) c
joins_both sink link a b c lines others p q =
    let size = length-append lines others in record {
      kept = kept_both sink link a b c p.kept q.kept;
      found = p.found ++ q.found;
      taken = found-join (arrived_by link a) (arrived_by link b) (arrived_by link c) p.found
          q.found p.taken q.taken;
      log = followed_by p.log q.log;
      adds = adds-join (outputs_by sink link a) (outputs_by sink link b)
          (outputs_by sink link c) p.log q.log p.adds q.adds;
      goes = λ more finds are.
          let left : List Find = left_after finds p.found in
          let then : List Find → Run = λ fs. run_from c.at.now more fs in
          ap (λ (ps : List Piece). run_from a.at.now ps finds) (append_assoc lines others more)
          ∙ p.goes (others ++ more) finds (next-front finds p.found q.found are)
          ∙ ap (run_after p.log) (q.goes more left (next-rest finds p.found q.found are))
          ∙ after_both p.log q.log (then (left_after left q.found))
          ∙ ap (λ (fs : List Find). run_after (followed_by p.log q.log) (then fs))
          (sym (left-join finds p.found q.found));
      count = omega (arith, size, p.count, q.count);
      grown = subst
          (λ n. IsGrown (most_grown * n) (router_in a.at.now.stage) (router_in c.at.now.stage))
          (sym size)
          (grown_both (length lines) (length others) (router_in a.at.now.stage)
          (router_in b.at.now.stage) (router_in c.at.now.stage) p.grown q.grown);
      no_write = q.no_write ∙ p.no_write;
      no_send = q.no_send ∙ p.no_send;
    }

-- each line has at least one byte, with its LF
few_lines : (lines : List Piece) → length lines ≤ size_of_pieces lines
few_lines [] = omega arith
few_lines (Whole line ∷ lines) = let h = few_lines lines in omega arith
few_lines (Long ∷ lines) = let h = few_lines lines in omega arith
few_lines (Beyond ∷ lines) = let h = few_lines lines in omega arith

-- the room that lines leave for others
pub leaves_room : {O L : Type 0} (sink : sinks.Ghosts O) (link : links.Ghosts L)
    (a b : Routing O L) (lines : List Piece) (all few : ℕ) → HasRoomFor link a all
    → HasLed sink link a lines b → size_of_pieces lines + few ≤ all → HasRoomFor link b few
leaves_room sink link a b lines all few room led fits =
    let low = few_lines lines in record {
      open_at = ap is_some (led.kept).port ∙ room.open_at;
      count = omega (arith, low, led.count, room.count);
      counts = record {
        heard = omega (arith, led.count, (room.counts).heard, (led.grown).heard);
        sent = omega (arith, led.count, (room.counts).sent, (led.grown).sent);
        dropped = omega (arith, led.count, (room.counts).dropped, (led.grown).dropped);
      };
    }
