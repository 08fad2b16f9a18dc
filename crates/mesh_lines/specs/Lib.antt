-- Read in this order.
-- Forms: what each word of a printed line may be.
pub mod Forms
-- Lines: the lines that say nothing about copies.
pub mod Lines
-- Belows: the lines without two spaces before them, and what may be below each.
pub mod Belows
-- Packets: how long the packets are that lines give.
pub mod Packets
-- Words: the words of a line that has one, two, three or four of them.
pub mod Words
