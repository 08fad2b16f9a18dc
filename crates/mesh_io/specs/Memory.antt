-- A source and a sink in memory, which give and take a limited number of bytes per call and fail by
-- plan.
use Rattle.std.specs.Prelude.{ℕ, ◌-◌, min, Bool, nat_eq, ◌||◌, if◌then◌else◌, List, ◌++◌, length, take, drop, Result, Ok, Err}
use Rattle.mesh_io.specs.Calls.{CallsSeen, fails_next, with_call, with_fault}
use Rattle.mesh_io.specs.declared.source.Failed.{Failed}

-- the bytes still to come, the most that a call gives, and the calls so far
pub record Giving : Type 0 where
  pub left : List ℕ
  pub most : ℕ
  pub calls : CallsSeen

-- how many bytes a call that doesn't fail gives to a buffer of this length
abbrev pub given_count : Giving → ℕ → ℕ
given_count source room = min (length source.left) (min room source.most)

-- what a call answers
abbrev pub take_answer : Giving → ℕ → Result ℕ Failed
take_answer source room =
    if fails_next source.calls then Err (record {}) else Ok (given_count source room)

-- the source after a call
abbrev pub after_take : Giving → ℕ → Giving
after_take source room =
    if fails_next source.calls
    then record source { calls = with_fault (with_call source.calls) }
    else record source {
      left = drop (given_count source room) source.left;
      calls = with_call source.calls;
    }

-- the buffer after a call: the bytes given, and after them what the buffer had there before
abbrev pub filled_buffer : Giving → List ℕ → List ℕ
filled_buffer source buffer =
    if fails_next source.calls then buffer
    else take (given_count source (length buffer)) source.left
    ++ drop (given_count source (length buffer)) buffer

-- the bytes held, the most that are held, the most that a call takes, and the calls so far
pub record Taking : Type 0 where
  pub held : List ℕ
  pub room : ℕ
  pub most : ℕ
  pub calls : CallsSeen

-- how many bytes of a piece of this length a call that doesn't fail takes
abbrev pub taken_count : Taking → ℕ → ℕ
taken_count sink count = min count (min sink.most (sink.room - length sink.held))

-- the next call fails: by plan, or because the sink is full
abbrev pub refuses : Taking → Bool
refuses sink = fails_next sink.calls || nat_eq (length sink.held) sink.room

-- what a call answers
abbrev pub put_answer : Taking → ℕ → Result ℕ Failed
put_answer sink count = if refuses sink then Err (record {}) else Ok (taken_count sink count)

-- the sink after a call
abbrev pub after_put : Taking → List ℕ → Taking
after_put sink piece =
    if refuses sink
    then record sink { calls = with_fault (with_call sink.calls) }
    else record sink {
      held = sink.held ++ take (taken_count sink (length piece)) piece;
      calls = with_call sink.calls;
    }
