-- One heap's account. 01, "heap.rs": "Charge adds to used and allocated, release takes from used and adds to deallocated.
-- The size is stored and not enforced." Sums wrap where a word or a total ends; 01's numbers 4 and 10 are tested first,
-- so none does in use (proofs/Bounds).
use Rattle.std.specs.Prelude.{ℕ, ◌+◌, ◌-◌, ◌/◌, ◌%◌, ◌^◌, ◌<◌, Bool, ◌&&◌, ◌==◌, nat_le, nat_lt}
use Rattle.counter.specs.Account.{value}
use Rattle.counter.specs.Limits.{heap_bytes_most}
use Rattle.counter.specs.declared.account.Heap.{Heap}
use Rattle.counter.specs.declared.account.Total.{Total}

-- a number as a total of two words
abbrev pub total_of : ℕ → Total
total_of n = record { hi = n / 2 ^ 64 % 2 ^ 64; lo = n % 2 ^ 64 }

-- a total with n more
unfoldable pub plus_of : Total → ℕ → Total
plus_of t n = total_of (value t + n)

-- a heap charged with some bytes
unfoldable pub charged_of : Heap → ℕ → Heap
charged_of h bytes =
    record {
      size = h.size;
      used = (h.used + bytes) % 2 ^ 64;
      allocated = plus_of h.allocated bytes;
      deallocated = h.deallocated;
    }

-- and with some released
unfoldable pub released_of : Heap → ℕ → Heap
released_of h bytes =
    record {
      size = h.size;
      used = h.used - bytes;
      allocated = h.allocated;
      deallocated = plus_of h.deallocated bytes;
    }

-- 01, number 10: heap used would not pass 2^62, nor the 128-bit allocated total overflow
unfoldable pub bears_ok : Heap → ℕ → Bool
bears_ok h bytes = nat_le (h.used + bytes) heap_bytes_most && nat_lt (value h.allocated + bytes) (2 ^ 128)

-- 01, number 4: heap used is allocated less deallocated
unfoldable pub agrees_ok : Heap → Bool
agrees_ok h = value h.deallocated + h.used == value h.allocated

-- a total's two words of 64 bits are below 2^128: every heap that code can lend has this
abbrev pub Within : Heap → Type 0
Within h = value h.allocated < 2 ^ 128
