-- What a trouble is called. Assumes nothing.
use Rattle.std.specs.Prelude.{ℕ, List, codes}
use Rattle.texts.specs.declared.trouble.Trouble.{Trouble}
use Rattle.texts.specs.declared.trouble.Trouble.TheVariants.{UnknownCommand, NotThereYet, MissingWord, ExtraWord, TooManyChildren, NotAShape, NotANumber, TooManyDigits, NotAPlace, NotAPose, NotAChild, NotAKind, NotAStatus, NotAHost, NotAPair, NotAnOverlap}

abbrev pub message_of : Trouble → List ℕ
message_of UnknownCommand = codes "no such command"
message_of NotThereYet = codes "this command is not there yet"
message_of MissingWord = codes "a word is missing"
message_of ExtraWord = codes "a word is left over"
message_of TooManyChildren = codes "more than 16 children"
message_of NotAShape = codes "no shape number"
message_of NotANumber = codes "no number"
message_of TooManyDigits = codes "a number has too many digits, write its bits as 0x........"
message_of NotAPlace = codes "no place, it is three numbers: x,y,z"
message_of NotAPose = codes "no pose, it is three numbers or seven: x,y,z or x,y,z,i,j,k,w"
message_of NotAChild = codes "no child, it is a shape number at a pose: N@POSE"
message_of NotAKind = codes "no kind of shape"
message_of NotAStatus = codes "no status, it is hit, failed, overlapped or separated"
message_of NotAHost = codes "no host, it is slide or recorded"
message_of NotAPair = codes "no pair, it is solid or pseudo"
message_of NotAnOverlap = codes "no overlap, it is yes, no or -"
