-- Read in this order: what causes a refusal, what was written of a text, bytes that only grow,
-- calls that fail by plan, sources and sinks in memory, those over std's readers and writers, how
-- much a buffer gathers, a buffer before a sink; the next line of an input, when the bytes at hand
-- decide it, what contracts see of a source that is cut into lines, and of a reader of the lines of
-- a schedule.
pub mod Cause
pub mod Puts
pub mod Growth
pub mod Calls
pub mod Memory
pub mod Streams
pub mod BufferSize
pub mod Buffering
pub mod NextLines
pub mod Decisions
pub mod Cutting
pub mod Reading
