-- Document 01's "A book to try", byte by byte, for closed examples: how a record is laid out, the two books, and words as bytes.
use Prim.Native.Nat.{ℕ}
use mathlib.Core.List.{List, [], ◌∷◌, ◌++◌}
use Rattle.format.specs.Records.{Bytes, record_of}
use Rattle.rules.specs.Layouts.{entry_body}

-- The records of each kind.
abbrev pub type_record : Bytes → Bytes
type_record name = record_of 1 name

abbrev pub pair_record : ℕ → ℕ → Bytes
pair_record lower upper = record_of 2 (lower ∷ upper ∷ [])

-- The simple types as bytes: a type number, then an exponent in two's complement.
abbrev pub entry_record : Bytes → Bytes → Bytes
entry_record word simples = record_of 3 (entry_body word simples)

-- The type as its text.
abbrev pub slashed_record : Bytes → Bytes → Bytes
slashed_record word text = record_of 5 (entry_body word text)

abbrev pub target_record : ℕ → Bytes
target_record number = record_of 4 (number ∷ [])

abbrev pub join : List Bytes → Bytes
join [] = []
join (record' ∷ rest) = record' ++ join rest

abbrev pub fetch : Bytes
fetch = 102 ∷ 101 ∷ 116 ∷ 99 ∷ 104 ∷ []

abbrev pub bed4 : Bytes
bed4 = 98 ∷ 101 ∷ 100 ∷ 52 ∷ []

abbrev pub ward7 : Bytes
ward7 = 119 ∷ 97 ∷ 114 ∷ 100 ∷ 55 ∷ []

abbrev pub urgently : Bytes
urgently = 117 ∷ 114 ∷ 103 ∷ 101 ∷ 110 ∷ 116 ∷ 108 ∷ 121 ∷ []

abbrev pub admit : Bytes
admit = 97 ∷ 100 ∷ 109 ∷ 105 ∷ 116 ∷ []

abbrev pub site : Bytes
site = 115 ∷ 105 ∷ 116 ∷ 101 ∷ []

abbrev pub go : Bytes
go = 103 ∷ 111 ∷ []

abbrev pub please : Bytes
please = 112 ∷ 108 ∷ 101 ∷ 97 ∷ 115 ∷ 101 ∷ []

abbrev pub log : Bytes
log = 108 ∷ 111 ∷ 103 ∷ []

-- Types o 0, p 1, w 2, u 3; pair u ≤ w.
abbrev pub types : List Bytes
types = type_record (111 ∷ []) ∷ type_record (112 ∷ []) ∷ type_record (119 ∷ []) ∷ type_record (117 ∷ []) ∷ pair_record 3 2 ∷ []

-- Entries 0 to 8. 255 is the exponent −1.
abbrev pub entries : List Bytes
entries =
    entry_record fetch (0 ∷ 0 ∷ 1 ∷ 255 ∷ [])
    ∷ entry_record fetch (0 ∷ 0 ∷ 2 ∷ 255 ∷ 1 ∷ 255 ∷ [])
    ∷ entry_record bed4 (1 ∷ 0 ∷ [])
    ∷ entry_record ward7 (3 ∷ 0 ∷ [])
    ∷ entry_record urgently (0 ∷ 1 ∷ 0 ∷ 0 ∷ [])
    ∷ entry_record admit (0 ∷ 0 ∷ 3 ∷ 255 ∷ [])
    ∷ entry_record site (2 ∷ 0 ∷ [])
    ∷ entry_record go (0 ∷ 0 ∷ [])
    ∷ entry_record please (0 ∷ 0 ∷ 0 ∷ 255 ∷ [])
    ∷ []

-- Target o.
abbrev pub first_book : Bytes
first_book = join (types ++ (target_record 0 ∷ entries))

-- The second book adds type k 4 and entry 9, log k o^l, with target k.
abbrev pub second_book : Bytes
second_book = join (types ++ (type_record (107 ∷ []) ∷ target_record 4 ∷ (entries ++ (entry_record log (4 ∷ 0 ∷ 0 ∷ 255 ∷ []) ∷ []))))
