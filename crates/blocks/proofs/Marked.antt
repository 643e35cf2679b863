-- The marked cases hold: one test that antt computes.
-- Assumes nothing.
use mathlib.Core.Path.{◌≡◌, refl}
use mathlib.Core.Bool.{true}
use Rattle.basics.specs.Lists.{all, same}
use Rattle.basics.specs.Words.{word, word_at}
use Rattle.postings.specs.Coding.{groups, vbyte, code, onto, value, at_most, second, first, decoded}
use Rattle.postings.specs.Marked.{marked, finds}
use Rattle.postings.specs.Marked as coding
use Rattle.blocks.specs.Fields.{block_size, head_fixed, link_size, link_of, head_of, part_of}
use Rattle.blocks.specs.Writes.{padded, changing, head_bytes, open_head, fits, add_to, join_to, append}
use Rattle.blocks.specs.Marked.{cases, grown, right, marked_right}

pub marked_cases_right : marked_right ≡ true
unfolding marked_right block_size head_fixed link_size cases marked all same coding.right finds right grown word word_at groups vbyte code onto value at_most second first decoded link_of head_of part_of padded changing head_bytes open_head fits add_to join_to append
marked_cases_right = refl
