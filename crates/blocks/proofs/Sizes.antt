-- Laws of the sizes of blocks. The crates above cite these and open no size; only the first three compute with one, for this crate and layout.
-- Assumes nothing.
use mathlib.Core.Path.{◌≡◌, refl}
use Prim.Native.Nat.{◌+◌, ◌≤◌, ◌<◌}
use native.Mathlib.Omega.{arith}
use Rattle.postings.specs.Coding.{max_code}
use Rattle.terms.specs.Terms.{max_term}
use Rattle.blocks.specs.Fields.{unit, block_size, head_fixed, link_size}

pub block_is : block_size ≡ 64
unfolding block_size
block_is = refl

pub fixed_is : head_fixed ≡ 18
unfolding head_fixed
fixed_is = refl

pub link_is : link_size ≡ 4
unfolding link_size
link_is = refl

pub ruleset sizes = (block_is, fixed_is, link_is)

-- a block lies in what its number counts for, and an offset in it is a byte
pub block_unit : block_size ≤ unit
block_unit = omega (arith, block_is)

pub block_byte : block_size < 256
block_byte = omega (arith, block_is)

-- a head's fixed bytes begin with a link
pub link_pos : 0 < link_size
link_pos = omega (arith, link_is)

pub link_head : link_size ≤ head_fixed
link_head = omega (arith, link_is, fixed_is)

-- a link and any posting fit, and so do a head's fixed bytes, any term and any posting
pub link_room : link_size + max_code ≤ block_size
link_room = omega (arith, block_is, link_is)

pub head_room : head_fixed + max_term + max_code ≤ block_size
head_room = omega (arith, block_is, fixed_is)

-- what the crates above know of the sizes
pub ruleset bounds = (block_unit, block_byte, link_pos, link_head, link_room, head_room)
