-- Each refusal in words, case by case.
use Rattle.std.specs.Prelude.{ℕ, List, codes}
use Rattle.refusal.specs.declared.Refusal.{Refusal}
use Rattle.refusal.specs.declared.Refusal.TheVariants.{TermTooLong, NotOneTerm, MoveUnreadable, NoNodeThere, PlaceNotActive, ShapeMisfit, NameInUse, ChannelDiffers, PointerOverflow, ResultTooLong, BufferTooShort, NothingLoaded, TallyFull, TooManyNameSorts, StreamTooLong, NotWholeBlocks, CheckDiffers, BlockMalformed, PartLength, ClaimDiffers, ListTooLong, SortPresent, TableFull, NoSuchPlace}

abbrev pub words_of : Refusal → List ℕ
words_of TermTooLong = codes "the term has more than 4096 bytes"
words_of NotOneTerm = codes "the bytes are not one whole term"
words_of MoveUnreadable = codes "bytes of the move are lacking, unknown or too many"
words_of NoNodeThere = codes "no node begins at the offset"
words_of PlaceNotActive = codes "the place is not active"
words_of ShapeMisfit = codes "the subterm does not have the shape of the rule"
words_of NameInUse = codes "the restricted name is in use"
words_of ChannelDiffers = codes "subject or count differs"
words_of PointerOverflow = codes "a pointer would pass 255"
words_of ResultTooLong = codes "the result would have more than 4096 bytes"
words_of BufferTooShort = codes "the buffer is too short"
words_of NothingLoaded = codes "nothing is loaded"
words_of TallyFull = codes "the tally would pass 1000000"
words_of TooManyNameSorts = codes "there are more than 256 name sorts"
words_of StreamTooLong = codes "the stream has more than 64512 bytes"
words_of NotWholeBlocks = codes "the sheet is not 1 to 128 whole blocks"
words_of CheckDiffers = codes "the check of the block differs"
words_of BlockMalformed = codes "number, used length or filling of the block is wrong"
words_of PartLength = codes "bytes of the stream are lacking or left over"
words_of ClaimDiffers = codes "the claim differs from what the moves lead to"
words_of ListTooLong = codes "the list has more than 8 sorts"
words_of SortPresent = codes "the table has a row of that sort"
words_of TableFull = codes "the table has 64 rows"
words_of NoSuchPlace = codes "the table has no such place"
