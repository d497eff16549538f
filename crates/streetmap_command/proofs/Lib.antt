mod Adding
mod Requested
mod Named
mod Numbers
