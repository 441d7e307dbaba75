-- Whether a chunk's number reaches another, as the code reads it.
use Rattle.std.proofs.Common.{◌≡◌, ℕ, ◌<◌, ◌≤◌, true, false, List, get_or, arith, le-leb}
use borrow.Author.Tests.{lt-leb}
use Rattle.words.specs.Words.{cell_of}
use Rattle.freelist_rules.specs.Records.{chunk_number_at, chunk_words}
use Rattle.freelist_regions.specs.Seat.{reaches}

pub reach_yes : (t : List ℕ) (n i c : ℕ) → c ≡ get_or t (cell_of chunk_number_at chunk_words i) 0 → n ≤ c → reaches t n i ≡ true
reach_yes t n i c e h = le-leb n (get_or t (cell_of chunk_number_at chunk_words i) 0) (omega (arith, e, h))

pub reach_not : (t : List ℕ) (n i c : ℕ) → c ≡ get_or t (cell_of chunk_number_at chunk_words i) 0 → c < n → reaches t n i ≡ false
reach_not t n i c e h = lt-leb n (get_or t (cell_of chunk_number_at chunk_words i) 0) (omega (arith, e, h))
