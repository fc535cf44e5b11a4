-- The numbers and lines of statuses.
use Rattle.std.specs.Prelude.{ℕ, List, [], ◌++◌, codes, decimal, Option, Some, None}
use Rattle.sdb_status.specs.declared.status.Status.{Status}
use Rattle.sdb_status.specs.declared.status.Status.TheVariants.{Done, Usage, ReadFault, OutOfMemory, WriteFault, DiskFault, BadKeys, BadScript, NotAStore, LinkFault, InputTooLong}

-- the number with which the program ends
abbrev pub number_of : Status → ℕ
number_of Done = 0
number_of Usage = 1
number_of ReadFault = 2
number_of OutOfMemory = 3
number_of WriteFault = 4
number_of DiskFault = 5
number_of (BadKeys line) = 6
number_of (BadScript at) = 7
number_of (NotAStore file) = 8
number_of LinkFault = 9
number_of InputTooLong = 10

-- the words of the line on standard error
unfoldable pub words_of : Status → List ℕ
words_of Done = codes ""
words_of Usage = codes "sdb: usage: sdb bare | replay | serve PORT TURNS | check | bench N"
words_of ReadFault = codes "sdb: reading failed"
words_of OutOfMemory = codes "sdb: out of memory"
words_of WriteFault = codes "sdb: writing failed"
words_of DiskFault = codes "sdb: disk failed"
words_of (BadKeys line) = codes "sdb: bad keys at line "
words_of (BadScript at) = codes "sdb: bad script at byte "
words_of (NotAStore file) = codes "sdb: not a store: file "
words_of LinkFault = codes "sdb: network failed"
words_of InputTooLong = codes "sdb: input too long"

-- the place that the line ends with: a line of the keys, a byte of the script, a file of the store
abbrev pub place_of : Status → Option ℕ
place_of Done = None
place_of Usage = None
place_of ReadFault = None
place_of OutOfMemory = None
place_of WriteFault = None
place_of DiskFault = None
place_of (BadKeys line) = Some line
place_of (BadScript at) = Some at
place_of (NotAStore file) = Some file
place_of LinkFault = None
place_of InputTooLong = None

-- a number's digits, where there is one
abbrev pub digits_of : Option ℕ → List ℕ
digits_of None = []
digits_of (Some place) = decimal place

-- the line on standard error, without its end
abbrev pub line_of : Status → List ℕ
line_of status = words_of status ++ digits_of (place_of status)
