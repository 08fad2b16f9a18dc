-- Part of what the headline says.
-- What contracts see of a source that is cut into lines, and what it answers.
use Rattle.std.specs.Prelude.{ℕ, ◌+◌, ◌-◌, ◌≡◌, ◌≤◌, ◌<◌, ◌⊎◌, Bool, true, false, if◌then◌else◌, List, [], length, take, drop, Option, Some, None, IfSome, Result, Ok, Err, IsErrOf, ⊤}
use Rattle.std.specs.Borrow.{Bor, MutBor}
use Rattle.std.specs.Io.KnownBytes.{prepend_known, IsAtEnd}
use Rattle.mesh_io.specs.Cause.{HasReadCause}
use Rattle.mesh_io.specs.NextLines.{FirstLine, first_line, line_size, Line, TooLong, TooMuch, next_of}
use Rattle.mesh_io.specs.Decisions.{decides}
use Rattle.mesh_io.specs.declared.limits.Limits.{Limits}
use Rattle.mesh_io.specs.declared.read_buffer.TheConstants.{ASKED}
use Rattle.mesh_io.specs.declared.source.Source.{Ghosts}
use Rattle.mesh_io.specs.declared.cutter.Cutter.{Cutter}
use Rattle.mesh_io.specs.declared.decision.Decision.{Decision}
use Rattle.mesh_io.specs.declared.decision.Decision.TheVariants as decision
use Rattle.mesh_io.specs.declared.line_error.LineError.{LineError}
use Rattle.mesh_io.specs.declared.line_error.LineError.TheVariants as error

-- a reader with this many bytes of room can hold the longest line and one read
abbrev pub HasRoom : Limits → ℕ → Type 0
HasRoom most room = most.line + ASKED ≤ room

-- the source that is read
abbrev pub source_in : {S : Type 0} {room : ℕ} {G : Ghosts S} → Cutter S room G → MutBor S
source_in cutter = cutter.source

-- the limits of its lines
abbrev pub limits_in : {S : Type 0} {room : ℕ} {G : Ghosts S} → Cutter S room G → Limits
limits_in cutter = cutter.most

-- how many bytes were given, each LF included
abbrev pub given_in : {S : Type 0} {room : ℕ} {G : Ghosts S} → Cutter S room G → ℕ
given_in cutter = cutter.given

-- the source has answered that it has ended
abbrev pub has_ended_in : {S : Type 0} {room : ℕ} {G : Ghosts S} → Cutter S room G → Bool
has_ended_in cutter = cutter.ended

-- the line that was found last
abbrev pub line_in : {S : Type 0} {room : ℕ} {G : Ghosts S} → Cutter S room G → List ℕ
line_in cutter = take cutter.len cutter.buffer

-- the bytes that were read and not yet given
abbrev pub pending_in : {S : Type 0} {room : ℕ} {G : Ghosts S} → Cutter S room G → List ℕ
pending_in cutter = drop cutter.size cutter.buffer

-- the bytes to come, if they are known
abbrev pub ahead_in : {S : Type 0} {room : ℕ} {G : Ghosts S} → (S → Option (List ℕ))
    → Cutter S room G → Option (List ℕ)
ahead_in left cutter = prepend_known (pending_in cutter) (left (cutter.source).now)

-- how often its source has failed
abbrev pub faults_in : {S : Type 0} {room : ℕ} {G : Ghosts S} → (S → ℕ) → Cutter S room G → ℕ
faults_in faults cutter = faults (cutter.source).now

-- the pending bytes decide what comes next
abbrev pub decides_in : {S : Type 0} {room : ℕ} {G : Ghosts S} → Cutter S room G → Bool
decides_in cutter = decides cutter.most cutter.given cutter.ended (pending_in cutter)

-- an upper bound on the reads that the next line still needs
abbrev pub reads_to_come : {S : Type 0} {room : ℕ} {G : Ghosts S} → Cutter S room G → ℕ
reads_to_come cutter =
    if cutter.ended then 0 else 1 + (cutter.most.line + 1 - length (pending_in cutter))

-- a decision that is a refusal
abbrev pub refusal_by : Decision → Option LineError
refusal_by decision.Open = None
refusal_by decision.End = None
refusal_by (decision.Line len size) = None
refusal_by decision.TooLong = Some error.TooLong
refusal_by decision.TooMuch = Some error.TooMuch

-- the refusal that each call from now on answers, if there is one
abbrev pub refusal_in : {S : Type 0} {room : ℕ} {G : Ghosts S} → Cutter S room G → Option LineError
refusal_in cutter = refusal_by cutter.decision

-- a refusal by a limit is answered from now on
abbrev pub Refuses : Result Bool LineError → Option LineError → Type 0
Refuses (Ok found) refusal = ⊤
Refuses (Err error.ReadFault) refusal = ⊤
Refuses (Err error.TooMuch) refusal = refusal ≡ Some error.TooMuch
Refuses (Err error.TooLong) refusal = refusal ≡ Some error.TooLong

-- no byte is an LF
abbrev pub HasNoLf : List ℕ → Type 0
HasNoLf bytes = (first_line bytes).ends ≡ false

-- a line of this length was counted with its LF; only the last of an input, whose source has ended,
-- may lack one
abbrev pub IsCounted : (len before after : ℕ) → Bool → Type 0
IsCounted len before after ended =
    (after ≡ before + len + 1) ⊎ ((after ≡ before + len) × (ended ≡ true))

-- the line found is the first of the bytes to come
pub record FindsLine (most : Limits) (given : ℕ) (bytes line : List ℕ) (after : ℕ)
    (left : Option (List ℕ)) : Type 0 where
  pub first : FirstLine
  pub next : next_of most given bytes ≡ Line first
  pub line_is : line ≡ first.line
  pub after_is : after ≡ given + line_size first
  pub left_is : left ≡ Some first.rest

-- the answer of a call before which these bytes were to come: the line found, how many bytes are
-- given once the call is over, and which are then to come
abbrev pub Tells : Limits → ℕ → List ℕ → Result Bool LineError → List ℕ → ℕ → Option (List ℕ)
    → Type 0
Tells most given bytes (Ok true) line after left = FindsLine most given bytes line after left
Tells most given bytes (Ok false) line after left =
    (bytes ≡ []) × (after ≡ given) × (left ≡ Some bytes)
Tells most given bytes (Err error.ReadFault) line after left = (after ≡ given) × (left ≡ Some bytes)
Tells most given bytes (Err error.TooMuch) line after left =
    (next_of most given bytes ≡ TooMuch) × (after ≡ given) × (left ≡ Some bytes)
Tells most given bytes (Err error.TooLong) line after left =
    (next_of most given bytes ≡ TooLong) × (after ≡ given) × (left ≡ Some bytes)

-- whether a line was lent, and which
abbrev pub found_in : Result (Option (Bor (List ℕ))) LineError → Result Bool LineError
found_in (Ok (Some line)) = Ok true
found_in (Ok None) = Ok false
found_in (Err error) = Err error

abbrev pub shown_in : Result (Option (Bor (List ℕ))) LineError → List ℕ
shown_in (Ok (Some line)) = line.now
shown_in (Ok None) = []
shown_in (Err error) = []

-- what a call that lends the next line has answered, and what it has done once the line is no
-- longer lent: each fact is one of `advance`
pub record NextTells {S : Type 0} {room : ℕ} {G : Ghosts S} (most : Limits)
    (left : S → Option (List ℕ)) (faults : S → ℕ) (old : Cutter S room G)
    (result : Result (Option (Bor (List ℕ))) LineError) (now : Cutter S room G) : Type 0 where
  pub same : (source_in now).ghost_name ≡ (source_in old).ghost_name
  pub limits : limits_in now ≡ most
  pub known : IfSome (ahead_in left old)
      (λ bytes. Tells most (given_in old) bytes (found_in result) (shown_in result)
      (given_in now) (ahead_in left now))
  pub unread : decides_in old ≡ true → (source_in now).now ≡ (source_in old).now
  pub stays : IfSome (refusal_in old) (λ refusal. (found_in result ≡ Err refusal) × (now ≡ old))
  pub kept : Refuses (found_in result) (refusal_in now)
  pub unasked : decides_in old ≡ true → ¬ IsErrOf (found_in result) error.ReadFault
  pub short : found_in result ≡ Ok true → length (shown_in result) ≤ most.line
  pub counted : found_in result ≡ Ok true
      → IsCounted (length (shown_in result)) (given_in old) (given_in now) (has_ended_in now)
  pub grows : found_in result ≡ Ok true → given_in old < given_in now
  pub few : given_in now ≤ most.input
  pub end : found_in result ≡ Ok false → IsAtEnd (left (source_in now).now)
  pub pending : IsErrOf (found_in result) error.ReadFault → HasNoLf (pending_in now)
  pub cause : HasReadCause (faults_in faults old) (faults_in faults now) (found_in result)
