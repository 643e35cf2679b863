-- A program over the plain ledger prints for document 01's example what document 01 has, by computing it.
-- Assumes nothing.
use mathlib.Core.Path.{refl}
use Rattle.basics.specs.Lists.{all, any, same}
use Rattle.basics.specs.Words.{word_at}
use Rattle.terms.specs.Terms.{allowed, capital, fold_byte, folded, is_term}
use Rattle.frames.specs.Refusals.{first_of}
use Rattle.frames.specs.Frames.{version, body_length, kind, term_at, count_at, past_field, fields_up_to, fields, wrong_version, wrong_length, wrong_kind, passes_end, wrong_terms, bad_term, zero_count, repeats_after, repeated_term, head_rows, field_rows, report_rows, query_rows, query_refusal, line_at}
use Rattle.postings.specs.Coding.{groups, vbyte, code}
use Rattle.blocks.specs.Prescribed.{opened, onward, reached, prescribed}
use Rattle.ledger.specs.Ledger.{lines_in, lines_of, named_in, named_by, start_of, in_report, in_reports, postings_of, with_name, names_after, names_from, names, sum, prescribed_blocks, earlier_rows, ledger_rows, enter_report, holds_term, count_in, first_count, list_from, listed, fill_two, fill_list}
use Rattle.ledger.specs.Calls.{ledger_one, ledger_all}
use Rattle.desk.specs.Text.{decimal_up_to, decimal, numbered, report_line, pair_text, pairs_text, place_text, places_text, end_text, list_line, one_line, all_line}
use Rattle.desk.specs.Desk.{kind_of, overlong, frame_length, front_frame, frames_up_to, frames}
use Rattle.desk.specs.Claims.{told_as, told_lines, ledger_output, ExamplePrinted}

pub example_printed : ExamplePrinted
unfolding all any same word_at allowed capital fold_byte folded is_term first_of version body_length kind term_at count_at past_field fields_up_to fields wrong_version wrong_length wrong_kind passes_end wrong_terms bad_term zero_count repeats_after repeated_term head_rows field_rows report_rows query_rows query_refusal line_at groups vbyte code opened onward reached prescribed lines_in lines_of named_in named_by start_of in_report in_reports postings_of with_name names_after names_from names sum prescribed_blocks earlier_rows ledger_rows enter_report holds_term count_in first_count list_from listed fill_two fill_list ledger_one ledger_all decimal_up_to decimal numbered report_line pair_text pairs_text place_text places_text end_text list_line one_line all_line kind_of overlong frame_length front_frame frames_up_to frames told_as told_lines ledger_output
example_printed = refl
