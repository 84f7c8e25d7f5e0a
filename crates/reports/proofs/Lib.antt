-- `Reports`: eight words set are a report written.
mod Reports
