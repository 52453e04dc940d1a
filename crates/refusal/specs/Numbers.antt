-- The number of each refusal, case by case.
use Rattle.std.specs.Prelude.{ℕ}
use Rattle.refusal.specs.declared.Refusal.{Refusal}
use Rattle.refusal.specs.declared.Refusal.TheVariants.{TermTooLong, NotOneTerm, MoveUnreadable, NoNodeThere, PlaceNotActive, ShapeMisfit, NameInUse, ChannelDiffers, PointerOverflow, ResultTooLong, BufferTooShort, NothingLoaded, TallyFull, TooManyNameSorts, StreamTooLong, NotWholeBlocks, CheckDiffers, BlockMalformed, PartLength, ClaimDiffers, ListTooLong, SortPresent, TableFull, NoSuchPlace}

abbrev pub number_of : Refusal → ℕ
number_of TermTooLong = 1
number_of NotOneTerm = 2
number_of MoveUnreadable = 3
number_of NoNodeThere = 4
number_of PlaceNotActive = 5
number_of ShapeMisfit = 6
number_of NameInUse = 7
number_of ChannelDiffers = 8
number_of PointerOverflow = 9
number_of ResultTooLong = 10
number_of BufferTooShort = 11
number_of NothingLoaded = 12
number_of TallyFull = 13
number_of TooManyNameSorts = 14
number_of StreamTooLong = 15
number_of NotWholeBlocks = 16
number_of CheckDiffers = 17
number_of BlockMalformed = 18
number_of PartLength = 19
number_of ClaimDiffers = 20
number_of ListTooLong = 21
number_of SortPresent = 22
number_of TableFull = 23
number_of NoSuchPlace = 24
