mod Moments
mod Requests
mod Works
