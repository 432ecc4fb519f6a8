-- Document 01, "The book's bytes": the limits of books and lines, those of batches, and the sizes that follow from them. `src/limits.rt` has the same figures.
use Rattle.std.specs.Prelude.{ℕ, ◌+◌, ◌*◌, ◌/◌}

-- Bytes, basic types, entries and targets of a book.
abbrev pub max_book : ℕ
max_book = 65535

abbrev pub max_types : ℕ
max_types = 64

abbrev pub max_entries : ℕ
max_entries = 1024

abbrev pub max_targets : ℕ
max_targets = 8

-- Bytes of a name and of a word, simple types of an entry.
abbrev pub max_name : ℕ
max_name = 15

abbrev pub max_word : ℕ
max_word = 31

abbrev pub max_entry_simples : ℕ
max_entry_simples = 12

-- How far brackets in a text may be open (document 02, 2.5).
abbrev pub max_depth : ℕ
max_depth = 6

-- The greatest exponent of a book; its negative is the least.
abbrev pub max_exponent : ℕ
max_exponent = 8

-- Words of a line, and simple types of all entries of all its words.
abbrev pub max_words : ℕ
max_words = 24

abbrev pub max_line_simples : ℕ
max_line_simples = 512

-- Simple types of a choice, and with a target behind it.
abbrev pub max_string : ℕ
max_string = max_words * max_entry_simples

abbrev pub max_places : ℕ
max_places = max_string + 1

-- Values of an answer beside entries and partners: the target's number, the number of words and that of simple types.
abbrev pub answer_head : ℕ
answer_head = 3

-- Values of an answer: its head, an entry for each word, a partner for each simple type.
abbrev pub max_values : ℕ
max_values = answer_head + max_words + max_string

-- A value of an answer has 16 bits: it is below this.
abbrev pub value_bound : ℕ
value_bound = 65536

-- Bytes and lines of a batch (document 02, 2.2).
abbrev pub max_batch : ℕ
max_batch = 65535

abbrev pub max_lines : ℕ
max_lines = 32

-- Values that a line of a batch takes, with the two before its answer, and that all of its lines take.
abbrev pub max_part : ℕ
max_part = 2 + max_values

abbrev pub max_batch_values : ℕ
max_batch_values = max_lines * max_part

-- Nodes of a line's graph: a boundary for each word and one behind the last, the simple types, and two for each target.
abbrev pub max_nodes : ℕ
max_nodes = max_words + max_line_simples + 1 + 2 * max_targets

-- Words of 64 bits that hold a set of nodes, and the members that they have room for.
abbrev pub row_words : ℕ
row_words = (max_nodes + 63) / 64

abbrev pub row_bits : ℕ
row_bits = 64 * row_words

-- Words of the chart of a line: a row for each node.
abbrev pub chart_words : ℕ
chart_words = max_nodes * row_words
