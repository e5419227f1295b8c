-- What the contracts of the kernel's calls cite from the rooms beneath, for those who enter by the kernel.
unfoldable pub use Rattle.device_calls.specs.Start.{start_number, start_after}
unfoldable pub use Rattle.device_calls.specs.Calls.{join_number, join_after, leave_number, leave_after, link_number, link_after}
unfoldable pub use Rattle.device_calls.specs.Calls.{override_number, override_after, clear_number, clear_after, ask_answer, move_number, move_after}
unfoldable pub use Rattle.plan.specs.Plan.{plan_answer, plan_slice}
unfoldable pub use Rattle.plan_plain.specs.Records.{plain_answer, plain_slice, record_after}
unfoldable pub use Rattle.wire_requests.specs.Requests.{read_request}
unfoldable pub use Rattle.wire_requests.specs.WrittenRequests.{request_number, request_item}
unfoldable pub use Rattle.wire_responses.specs.Responses.{read_response}
unfoldable pub use Rattle.wire_responses.specs.WrittenResponses.{response_number, response_item}
unfoldable pub use Rattle.wire_output.specs.Writing.{item_frame, written_of, left_by}
unfoldable pub use Rattle.report.specs.Report.{report_of, pairs_after}
pub use Rattle.plan.specs.Plan.{row_size}
pub use Rattle.device_store.specs.declared.Settings.{Settings}
pub use Rattle.wire_requests.specs.declared.reading.Reading.{Reading}
pub use Rattle.wire_responses.specs.declared.reading.Answer.{Answer}
pub use Rattle.wire_output.specs.declared.Written.{Written}
pub use Rattle.report.specs.declared.Inputs.{Inputs}
