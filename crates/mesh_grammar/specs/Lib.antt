-- Read in this order.
-- Words: the words of a line, and what each may be.
pub mod Words
-- Forms: the arguments of a command.
pub mod Forms
-- Scripts: a line, read by the table of a script's commands.
pub mod Scripts
-- Commands: the table of a schedule.
pub mod Commands
-- Written: a line in its written form.
pub mod Written
-- Lines: the complete lines of some bytes.
pub mod Lines
-- Faults: why a line is refused, in words.
pub mod Faults
-- Laws: what is proved of these definitions.
pub mod Laws
