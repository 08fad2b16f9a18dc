-- A run of lines, step by step: how far it has come, and how it ends.
use Rattle.std.proofs.Common.{◌≡◌, ℕ, ◌+◌, ◌≤◌, ◌<◌, inl, inr, Bool, true, false, List, [], ◌∷◌, ◌++◌, Option, Result, Ok, Err, length, refl, subst, append-nil, arith}
use Rattle.std.specs.Prelude.{IfSome}
use Rattle.std.specs.Io.KnownBytes.{IsAtEnd, prepend_known}
use Rattle.mesh_io.specs.Cause.{Rose}
use Rattle.mesh_io.specs.Cutting.{Tells, IsCounted, HasNoLf}
use Rattle.mesh_io.specs.declared.limits.Limits.{Limits}
use Rattle.mesh_io.specs.declared.line_error.LineError.{LineError}
use Rattle.mesh_io.specs.declared.line_error.LineError.TheVariants as error
use Rattle.mesh_shell.specs.Pieces.{Piece, Whole, Long, Beyond}
use Rattle.mesh_shell.specs.Scripts.{size_of_line, size_of_pieces}
use Rattle.mesh_shell.specs.ScriptedLaws.{size_of_both}
use Rattle.mesh_shell.specs.Runs.{AtEnd, AtLine, AtWait, AtFault, IsRan}
use Rattle.mesh_shell.specs.declared.reader.LineReader as readers
use Rattle.mesh_shell.specs.declared.runner.Runner as runners
use Rattle.mesh_shell.proofs.Progress.{IsProgress, ComesNext, begins, goes, rest_of, at_end, at_line, at_long, at_beyond, at_fault}

-- ---- sizes

-- a line is counted with all its bytes
counted_size : (line : List ℕ) (given after : ℕ) (ended : Bool) → IsCounted (length line) given after ended → given < after → given + size_of_line line ≤ after
counted_size line given after ended counted grows = by_counted counted
  where
    by_counted : IsCounted (length line) given after ended → given + size_of_line line ≤ after
    by_counted (inl lf) = omega arith
    by_counted (inr last) = let is = last.0 in omega arith

-- ---- what a reader told

-- the bytes to come
abbrev pub to_come : {L : Type 0} → readers.Ghosts L → L → Option (List ℕ)
to_come l now = prepend_known (l.pending now) (l.left now)

-- it has answered this, by these limits
abbrev pub HasTold : {L : Type 0} → readers.Ghosts L → Limits → L → L → Result Bool LineError → Type 0
HasTold l most now after result = IfSome (to_come l now) (λ bytes. Tells most (l.given now) bytes result (l.found after) (l.given after) (to_come l after))

pub told_as : {L : Type 0} (l : readers.Ghosts L) (most : Limits) (now after : L) (x y : Result Bool LineError) → l.limits now ≡ most → x ≡ y → HasTold l (l.limits now) now after x → HasTold l most now after y
told_as l most now after x y same is told = subst (λ (m : Limits). HasTold l m now after y) same (subst (HasTold l (l.limits now) now after) is told)

-- ---- how far it has come

-- from the one state to the other lines were done that the reader has given since it was the first
pub record HasCome {R A L : Type 0} (r : runners.Ghosts R A) (l : readers.Ghosts L) (first now : L) (old mid : R) : Type 0 where
  pub done : List Piece
  pub led : r.leads old done mid
  pub size : size_of_pieces done ≤ l.given now
  pub progress : IsProgress (l.limits first) (l.left first) (to_come l now) (l.given now) (l.ended now) done

-- the laws of a runner
abbrev pub Joins : {R A : Type 0} → runners.Ghosts R A → Type 0
Joins {R} r = (a b c : R) (lines others : List Piece) → r.leads a lines b → r.leads b others c → r.leads a (lines ++ others) c

abbrev pub Leaves : {R A : Type 0} → runners.Ghosts R A → Type 0
Leaves {R} r = (a b : R) (lines : List Piece) (all few : ℕ) → r.has_room a all → r.leads a lines b → size_of_pieces lines + few ≤ all → r.has_room b few

pub at_begin : {R A L : Type 0} (r : runners.Ghosts R A) (l : readers.Ghosts L) (first : L) (old : R) → r.leads old [] old → l.pending first ≡ [] → l.given first ≡ 0 → HasCome r l first first old old
at_begin r l first old stays none zero_is = record {
  done = [];
  led = stays;
  size = omega arith;
  progress = begins (l.limits first) (l.left first) (l.pending first) (l.given first) (l.ended first) none zero_is;
}

-- what was gathered was handed on
pub handed_on : {R A L : Type 0} (r : runners.Ghosts R A) (l : readers.Ghosts L) (first now : L) (old mid new : R) → Joins r → HasCome r l first now old mid → r.leads mid [] new → HasCome r l first now old new
handed_on r l first now old mid new joins come led = record {
  done = come.done;
  led = subst (λ (lines : List Piece). r.leads old lines new) (append-nil come.done) (joins old mid new come.done [] come.led led);
  size = come.size;
  progress = come.progress;
}

-- a line was done
pub line_done : {R A L : Type 0} (r : runners.Ghosts R A) (l : readers.Ghosts L) (first now after : L) (old mid new : R) → Joins r → l.given now ≤ (l.limits first).input → l.given after ≤ (l.limits first).input → length (l.found after) ≤ (l.limits first).line
    → HasCome r l first now old mid → HasTold l (l.limits first) now after (Ok true) → IsCounted (length (l.found after)) (l.given now) (l.given after) (l.ended after) → l.given now < l.given after → r.leads mid (Whole (l.found after) ∷ []) new
    → HasCome r l first after old new
line_done r l first now after old mid new joins few fits short come told counted grows led =
    let line : List Piece = Whole (l.found after) ∷ [] in
    let size = counted_size (l.found after) (l.given now) (l.given after) (l.ended after) counted grows in
    record {
      done = come.done ++ line;
      led = joins old mid new come.done line come.led led;
      size = omega (arith, size_of_both come.done line, come.size, size);
      progress = goes (l.limits first) (l.left first) (to_come l now) (to_come l after) (l.found after) (l.given now) (l.given after) (l.ended now) (l.ended after) come.done few fits short come.progress told counted;
    }

-- ---- the room that is left

pub room_for_line : {R A L : Type 0} (r : runners.Ghosts R A) (l : readers.Ghosts L) (first now after : L) (old mid : R) → Leaves r → r.has_room old ((l.limits first).input + 1) → l.given after ≤ (l.limits first).input → HasCome r l first now old mid
    → IsCounted (length (l.found after)) (l.given now) (l.given after) (l.ended after) → l.given now < l.given after → r.has_room mid (size_of_line (l.found after))
room_for_line r l first now after old mid leaves room fits come counted grows =
    let size = counted_size (l.found after) (l.given now) (l.given after) (l.ended after) counted grows in
    leaves old mid come.done ((l.limits first).input + 1) (size_of_line (l.found after)) room come.led (omega (arith, come.size, size, fits))

pub room_past : {R A L : Type 0} (r : runners.Ghosts R A) (l : readers.Ghosts L) (first now : L) (old mid : R) → Leaves r → r.has_room old ((l.limits first).input + 1) → l.given now ≤ (l.limits first).input → HasCome r l first now old mid → r.has_room mid 1
room_past r l first now old mid leaves room few come = leaves old mid come.done ((l.limits first).input + 1) 1 room come.led (omega (arith, come.size, few))

-- ---- how it ends

module _ {R A L : Type 0} (r : runners.Ghosts R A) (l : readers.Ghosts L) (first now after : L) (old mid new : R) (answer : A) (few : l.given now ≤ (l.limits first).input) (come : HasCome r l first now old mid) where
  within : size_of_pieces come.done ≤ (l.limits first).input
  within = omega (arith, come.size, few)

  pub ran_to_end : HasTold l (l.limits first) now after (Ok false) → IsAtEnd (l.left after) → l.faults after ≡ l.faults first → r.ends mid new answer → IsRan r l first after old new answer
  ran_to_end told closed same ended = record {
    done = come.done;
    later = [];
    mid = mid;
    at = AtEnd;
    all = at_end (l.limits first) (l.left first) (to_come l now) (to_come l after) (l.found after) (l.given now) (l.given after) (l.ended now) come.done come.progress told;
    few = within;
    led = come.led;
    ended = ended;
    leaves = (refl, closed, same);
  }

  ran_to_piece : (piece : Piece) → ComesNext (l.limits first) (l.left first) come.done piece → l.faults after ≡ l.faults first → r.stops mid piece new answer → IsRan r l first after old new answer
  ran_to_piece piece next same ended = record {
    done = come.done;
    later = piece ∷ next.0;
    mid = mid;
    at = AtLine piece;
    all = next.1;
    few = within;
    led = come.led;
    ended = ended;
    leaves = ((next.0, refl), same);
  }

  pub ran_to_line : HasTold l (l.limits first) now after (Ok true) → l.faults after ≡ l.faults first → r.stops mid (Whole (l.found after)) new answer → IsRan r l first after old new answer
  ran_to_line told same ended =
      ran_to_piece (Whole (l.found after))
      (at_line (l.limits first) (l.left first) (to_come l now) (to_come l after) (l.found after) (l.given now) (l.given after) (l.ended now) come.done few come.progress told) same ended

  pub ran_to_long : HasTold l (l.limits first) now after (Err error.TooLong) → l.faults after ≡ l.faults first → r.stops mid Long new answer → IsRan r l first after old new answer
  ran_to_long told same ended =
      ran_to_piece Long (at_long (l.limits first) (l.left first) (to_come l now) (to_come l after) (l.found after) (l.given now) (l.given after) (l.ended now) come.done few come.progress told) same ended

  pub ran_to_beyond : HasTold l (l.limits first) now after (Err error.TooMuch) → l.faults after ≡ l.faults first → r.stops mid Beyond new answer → IsRan r l first after old new answer
  ran_to_beyond told same ended =
      ran_to_piece Beyond (at_beyond (l.limits first) (l.left first) (to_come l now) (to_come l after) (l.found after) (l.given now) (l.given after) (l.ended now) come.done few come.progress told) same ended

  pub ran_to_wait : l.faults after ≡ l.faults first → r.breaks mid new answer → IsRan r l first after old new answer
  ran_to_wait same ended =
      let rest = rest_of (l.limits first) (l.left first) (to_come l now) (l.given now) (l.ended now) come.done come.progress in record {
        done = come.done;
        later = rest.0;
        mid = mid;
        at = AtWait;
        all = rest.1;
        few = within;
        led = come.led;
        ended = ended;
        leaves = same;
      }

  pub ran_to_fault : HasTold l (l.limits first) now after (Err error.ReadFault) → HasNoLf (l.pending after) → ¬ (l.ended now ≡ true) → l.faults first ≤ l.faults after → Rose (l.faults first) (l.faults after) → r.cuts mid new answer
      → IsRan r l first after old new answer
  ran_to_fault told none unended later rose ended =
      let rest = rest_of (l.limits first) (l.left first) (to_come l now) (l.given now) (l.ended now) come.done come.progress in record {
        done = come.done;
        later = rest.0;
        mid = mid;
        at = AtFault;
        all = rest.1;
        few = within;
        led = come.led;
        ended = ended;
        leaves = record {
          later = later;
          rose = rose;
          cut = at_fault (l.limits first) (l.left first) (to_come l now) (l.left after) (l.pending after) (l.found after) (l.given now) (l.given after) (l.ended now) come.done come.progress told none unended;
        };
      }
