use Rattle.sdb_format.proofs.NumberLaws.{byte_format, u16_format, u32_format}
use Rattle.sdb_format.proofs.laws.numbers_are_formats.Goals as goal

pub returns : goal.returns
returns c = record { bytes = byte_format; twos = u16_format; fours = u32_format }
