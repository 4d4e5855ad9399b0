-- document 01's listing: the bytes of its input and of its output, where the receipts, lines 4 and 10, end in their news (document 02). Assumes nothing.
use Rattle.std.specs.Prelude.{ℕ, List}
use Rattle.decimal.specs.Ascii.{ascii}

-- the listing's input, as document 01 has it, and its output
abbrev pub listing_input : List ℕ
listing_input =
    ascii "net 2 7\nallow 0 3\nallow 1 3\nlink 0 1 2\nenter 0 501\nsend 0 1 502\nstart 1\nrecv 1 0\nrecv 0 1\nrecv 1 0\nrecv 1 0\nsend 1 0 503\nrecv 0 1\nrecv 0 1\nrecv 0 1\n"

abbrev pub listing_output : List ℕ
listing_output =
    ascii "1 entry 0 0 1 0\n2 entry 0 0 2 0\n3 mode 0 1 mute\n4 entry 0 1 2 1 1\n5 mode 1 0 stand-by\n6 mode 1 1 stand-by\n7 mode 1 1 normal\n8 entry 1 1 0 1\n9 mode 1 0 normal\n10 entry 1 0 1 1 1\n11 no 7\n"
